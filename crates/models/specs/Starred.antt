-- The starred models of 01 as one table, and cases of K2, K3 and K4. For trees the files stand as words, the trees whole, as the original writes them; for edits as bytes; crossings as
-- binary64 patterns.
use Rattle.std.specs.Prelude.{ℕ, ◌*◌, List, [], ◌∷◌, ◌++◌}
use Rattle.register.specs.Register.{Call, put, remove, undo}

pub data Row : Type 0 where
  -- a binary64 pattern, and the binary32 pattern that it narrows to; 2^32 where it is too large
  narrows : ℕ → ℕ → Row
  -- a point file and how many words of scratch are lent; the answer, node and order counts, and the tree
  builds : List ℕ → ℕ → ℕ → ℕ → ℕ → List ℕ → Row
  -- a grid; the answer, and its most costly tree's nodes and bytes
  costs : ℕ → ℕ → ℕ → ℕ → Row
  -- a grid and how many bytes are lent; the answer, and the file
  writes : ℕ → ℕ → ℕ → List ℕ → Row
  -- a buffer of bytes with an opened file, and a journal; calls; the answers, and what is left in the two
  edits : List ℕ → List ℕ → List Call → List ℕ → List ℕ → List ℕ → Row
  -- crossings, in whatever order; those that remain; 1 for inside, 0 for outside
  thins : List ℕ → List ℕ → ℕ → Row

-- the bytes of a header at g 2, with the count's lowest byte
abbrev headed : ℕ → List ℕ
headed n =
    (0x52 ∷ 0x59 ∷ 0x4d ∷ 0x31 ∷ 1 ∷ 0 ∷ 0 ∷ 0 ∷ 2 ∷ 0 ∷ 0 ∷ 0 ∷ n ∷ 0 ∷ 0 ∷ 0 ∷ [])
    ++ ((0 ∷ 0 ∷ 0x80 ∷ 0x3f ∷ 0 ∷ 0 ∷ 0 ∷ 0x3f ∷ 0 ∷ 0 ∷ 0 ∷ 0x40 ∷ 0xff ∷ 0xff ∷ 0xff ∷ 0xff ∷ [])
    ++ ((0 ∷ 0 ∷ 0 ∷ 0 ∷ 0 ∷ 0 ∷ 0 ∷ 0 ∷ 0 ∷ 0 ∷ 0 ∷ 0 ∷ 0 ∷ 0 ∷ 0 ∷ 0x40 ∷ 0 ∷ 0 ∷ 0 ∷ 0x40 ∷ 0 ∷ 0 ∷ 0 ∷ 0x40 ∷ [])
    ++ (1 ∷ 2 ∷ 3 ∷ 4 ∷ 5 ∷ 6 ∷ 7 ∷ 8 ∷ [])))

-- the records of (1, 0, 0), masses 1 and 2, and of (0, 0, 0), masses 3 and −4
abbrev right : List ℕ
right = 1 ∷ 0 ∷ 0 ∷ 0 ∷ 0 ∷ 0 ∷ 0 ∷ 0 ∷ 0 ∷ 0 ∷ 0x80 ∷ 0x3f ∷ 0 ∷ 0 ∷ 0 ∷ 0x40 ∷ []

abbrev left : List ℕ
left = 0 ∷ 0 ∷ 0 ∷ 0 ∷ 0 ∷ 0 ∷ 0 ∷ 0 ∷ 0 ∷ 0 ∷ 0x40 ∷ 0x40 ∷ 0 ∷ 0 ∷ 0x80 ∷ 0xc0 ∷ []

abbrev spare : List ℕ
spare = 9 ∷ 9 ∷ 9 ∷ 9 ∷ 9 ∷ 9 ∷ 9 ∷ 9 ∷ 9 ∷ 9 ∷ 9 ∷ 9 ∷ 9 ∷ 9 ∷ 9 ∷ 9 ∷ []

abbrev zeros : List ℕ
zeros = 0 ∷ 0 ∷ 0 ∷ 0 ∷ 0 ∷ 0 ∷ 0 ∷ 0 ∷ 0 ∷ 0 ∷ 0 ∷ 0 ∷ 0 ∷ 0 ∷ 0 ∷ 0 ∷ []

-- g 1, box 0 to 2, masses 3 and 0, with this pad; its tree
abbrev point : ℕ → List ℕ
point pad = 0x314d5952 ∷ 1 ∷ 1 ∷ 1 ∷ 0x4494c000 ∷ 0x3f000000 ∷ 0x40400000 ∷ 0 ∷ 0 ∷ 0 ∷ 0 ∷ 0x40000000 ∷ 0x40000000 ∷ 0x40000000 ∷ 0 ∷ 0 ∷ 0 ∷ 0x10000 * pad ∷ 0x40400000 ∷ 0 ∷ []

abbrev point_tree : List ℕ
point_tree = 0x314d5452 ∷ 2 ∷ 1 ∷ 1 ∷ 0x40400000 ∷ 0x4494c000 ∷ 0x3f000000 ∷ 0 ∷ 0 ∷ 0 ∷ 0 ∷ 0x40000000 ∷ 0x40000000 ∷ 0x40000000 ∷ 1 ∷ 0 ∷ 0x3f800000 ∷ 0x3f800000 ∷ 0x3f800000 ∷ 0x3f800000 ∷ 0x40400000 ∷ 0 ∷ 0xbf800000 ∷ 0xbf800000 ∷ 0x3f800000 ∷ 0x3f800000 ∷ 0x3f800000 ∷ 0 ∷ 0x3f800000 ∷ 0x3f800000 ∷ 0x3f800000 ∷ 0x3f800000 ∷ 0x3f800000 ∷ 0x3f800000 ∷ 0x3f800000 ∷ 0x3f800000 ∷ 0 ∷ []

-- g 3, the plane z = 0 full, in cell order; its tree
abbrev plane : List ℕ
plane = 0x314d5952 ∷ 1 ∷ 3 ∷ 9 ∷ 0x4494c000 ∷ 0x3f000000 ∷ 0x40400000 ∷ 0 ∷ 0xbf800000 ∷ 0 ∷ 0x40000000 ∷ 0x40000000 ∷ 0x40c00000 ∷ 0x40b00000 ∷ 0 ∷ 0 ∷ 0 ∷ 0 ∷ 0x3f800000 ∷ 0x3fc00000 ∷ 1 ∷ 0 ∷ 0x40000000 ∷ 0xbfc00000 ∷ 2 ∷ 0 ∷ 0x40400000 ∷ 0x3fc00000 ∷ 0x00010000 ∷ 0 ∷ 0x40800000 ∷ 0xbfc00000 ∷ 0x00010001 ∷ 0 ∷ 0x40a00000 ∷ 0x3fc00000 ∷ 0x00010002 ∷ 0 ∷ 0x40c00000 ∷ 0xbfc00000 ∷ 0x00020000 ∷ 0 ∷ 0x40e00000 ∷ 0x3fc00000 ∷ 0x00020001 ∷ 0 ∷ 0x41000000 ∷ 0xbfc00000 ∷ 0x00020002 ∷ 0 ∷ 0x41100000 ∷ 0x3fc00000 ∷ []

abbrev plane_tree : List ℕ
plane_tree = 0x314d5452 ∷ 2 ∷ 3 ∷ 9 ∷ 0x40400000 ∷ 0x4494c000 ∷ 0x3f000000 ∷ 0 ∷ 0xbf800000 ∷ 0 ∷ 0x40000000 ∷ 0x40000000 ∷ 0x40c00000 ∷ 0x40b00000 ∷ 3 ∷ 0 ∷ 0x3f000000 ∷ 0x40400000 ∷ 0x40700000 ∷ 0x40400000 ∷ 0x42340000 ∷ 0x3fc00000 ∷ 0x3f800000 ∷ 0x40000000 ∷ 0x3f222222 ∷ 0x40733333 ∷ 0x40255555 ∷ 0 ∷ 0x3f000000 ∷ 0x40400000 ∷ 0x40255555 ∷ 0 ∷ 0x3f000000 ∷ 0x40400000 ∷ 0x40255555 ∷ 0x41100000 ∷ 0xbf000000 ∷ 0x40400000 ∷ 0x40700000 ∷ 0x40400000 ∷ 0x41400000 ∷ 0x3fc00000 ∷ 0xbf800000 ∷ 0xbf800000 ∷ 0xbf000000 ∷ 0x40800000 ∷ 0x40255555 ∷ 0 ∷ 0xbf000000 ∷ 0x40400000 ∷ 0x40255555 ∷ 0x40400000 ∷ 0xbf000000 ∷ 0x40400000 ∷ 0x40255555 ∷ 0x40400000 ∷ 0x3f800000 ∷ 0x40400000 ∷ 0x40700000 ∷ 0x40400000 ∷ 0x42040000 ∷ 0 ∷ 0xbf800000 ∷ 0xbf800000 ∷ 0x3f85d174 ∷ 0x406e8ba3 ∷ 0x40255555 ∷ 0x40400000 ∷ 0x3f800000 ∷ 0x40400000 ∷ 0x40700000 ∷ 0x40c00000 ∷ 0x3f800000 ∷ 0x40400000 ∷ 0x40255555 ∷ 0x40c00000 ∷ 0 ∷ 3 ∷ 6 ∷ 1 ∷ 2 ∷ 4 ∷ 5 ∷ 7 ∷ 8 ∷ []

unfoldable pub table : List Row
table =
    -- 1 + 2^-24, 1 + 3·2^-24, 3·2^-150, 2^128 − 2^103
    narrows 0x3ff0000010000000 0x3f800000
    ∷ narrows 0x3ff0000030000000 0x3f800002
    ∷ narrows 0x36a8000000000000 0x00000002
    ∷ narrows 0x47effffff0000000 0x100000000
    -- g 1, n 0: one node, links −1
    ∷ builds (0x314d5952 ∷ 1 ∷ 1 ∷ 0 ∷ 0x4494c000 ∷ 0x3f000000 ∷ 0x40400000 ∷ 0 ∷ 0 ∷ 0 ∷ 0 ∷ 0x40000000 ∷ 0x40000000 ∷ 0x40000000 ∷ 0 ∷ 0 ∷ []) 2 144 1 0
    (0x314d5452 ∷ 2 ∷ 1 ∷ 0 ∷ 0x40400000 ∷ 0x4494c000 ∷ 0x3f000000 ∷ 0 ∷ 0 ∷ 0 ∷ 0 ∷ 0x40000000 ∷ 0x40000000 ∷ 0x40000000 ∷ 1 ∷ 0 ∷ 0x3f800000 ∷ 0x3f800000 ∷ 0x3f800000 ∷ 0x3f800000 ∷ 0 ∷ 0 ∷ 0xbf800000 ∷ 0xbf800000 ∷ 0x3f800000 ∷ 0x3f800000 ∷ 0x3f800000 ∷ 0 ∷ 0x3f800000 ∷ 0x3f800000 ∷ 0x3f800000 ∷ 0 ∷ 0x3f800000 ∷ 0x3f800000 ∷ 0x3f800000 ∷ 0 ∷ [])
    -- g 1, box 0 to 2, masses 3 and 0: centre, half and all centres of mass 1
    ∷ builds (point 0) 2 148 1 1 point_tree
    -- g 2, all eight cells: one leaf
    ∷ builds (0x314d5952 ∷ 1 ∷ 2 ∷ 8 ∷ 0x4494c000 ∷ 0x3f000000 ∷ 0x40400000 ∷ 0 ∷ 0xbf800000 ∷ 0 ∷ 0x40000000 ∷ 0x40000000 ∷ 0x40c00000 ∷ 0x40b00000 ∷ 0 ∷ 0 ∷ 0 ∷ 0 ∷ 0x3f800000 ∷ 0x3fc00000 ∷ 1 ∷ 0 ∷ 0x40000000 ∷ 0xbfc00000 ∷ 0x00010000 ∷ 0 ∷ 0x40400000 ∷ 0x3fc00000 ∷ 0x00010001 ∷ 0 ∷ 0x40800000 ∷ 0xbfc00000 ∷ 0 ∷ 1 ∷ 0x40a00000 ∷ 0x3fc00000 ∷ 1 ∷ 1 ∷ 0x40c00000 ∷ 0xbfc00000 ∷ 0x00010000 ∷ 1 ∷ 0x40e00000 ∷ 0x3fc00000 ∷ 0x00010001 ∷ 1 ∷ 0x41000000 ∷ 0xbfc00000 ∷ []) 8 176 1 8
    (0x314d5452 ∷ 2 ∷ 2 ∷ 8 ∷ 0x40400000 ∷ 0x4494c000 ∷ 0x3f000000 ∷ 0 ∷ 0xbf800000 ∷ 0 ∷ 0x40000000 ∷ 0x40000000 ∷ 0x40c00000 ∷ 0x40b00000 ∷ 1 ∷ 0 ∷ 0x3f000000 ∷ 0x40400000 ∷ 0x40700000 ∷ 0x40400000 ∷ 0x42100000 ∷ 0 ∷ 0xbf800000 ∷ 0xbf800000 ∷ 0x3f155555 ∷ 0x40555555 ∷ 0x408471c7 ∷ 0 ∷ 0x3f000000 ∷ 0x40400000 ∷ 0x40700000 ∷ 0x41000000 ∷ 0x3f000000 ∷ 0x40400000 ∷ 0x40700000 ∷ 0x41000000 ∷ 0 ∷ 1 ∷ 2 ∷ 3 ∷ 4 ∷ 5 ∷ 6 ∷ 7 ∷ [])
    -- g 3, the plane z = 0 full, in cell order: order 0 3 6 1 2 4 5 7 8
    ∷ builds plane 27 340 3 9 plane_tree
    -- g 4, cells with all coordinates below 2, and (0, 3, 0): the root's right link is −1
    ∷ builds (0x314d5952 ∷ 1 ∷ 4 ∷ 9 ∷ 0x4494c000 ∷ 0x3f000000 ∷ 0x40400000 ∷ 0 ∷ 0xbf800000 ∷ 0 ∷ 0x40000000 ∷ 0x40000000 ∷ 0x40c00000 ∷ 0x40b00000 ∷ 0 ∷ 0 ∷ 0 ∷ 0 ∷ 0x3f800000 ∷ 0x3fc00000 ∷ 1 ∷ 0 ∷ 0x40000000 ∷ 0xbfc00000 ∷ 0x00010000 ∷ 0 ∷ 0x40400000 ∷ 0x3fc00000 ∷ 0x00010001 ∷ 0 ∷ 0x40800000 ∷ 0xbfc00000 ∷ 0x00030000 ∷ 0 ∷ 0x40a00000 ∷ 0x3fc00000 ∷ 0 ∷ 1 ∷ 0x40c00000 ∷ 0xbfc00000 ∷ 1 ∷ 1 ∷ 0x40e00000 ∷ 0x3fc00000 ∷ 0x00010000 ∷ 1 ∷ 0x41000000 ∷ 0xbfc00000 ∷ 0x00010001 ∷ 1 ∷ 0x41100000 ∷ 0x3fc00000 ∷ []) 64 500 5 9
    (0x314d5452 ∷ 2 ∷ 4 ∷ 9 ∷ 0x40400000 ∷ 0x4494c000 ∷ 0x3f000000 ∷ 0 ∷ 0xbf800000 ∷ 0 ∷ 0x40000000 ∷ 0x40000000 ∷ 0x40c00000 ∷ 0x40b00000 ∷ 5 ∷ 0 ∷ 0x3f000000 ∷ 0x40400000 ∷ 0x40700000 ∷ 0x40400000 ∷ 0x42340000 ∷ 0x3fc00000 ∷ 0x3f800000 ∷ 0xbf800000 ∷ 0xbe844444 ∷ 0x40033333 ∷ 0x40415555 ∷ 0 ∷ 0xbf200000 ∷ 0x40a80000 ∷ 0x401c0000 ∷ 0 ∷ 0xbe955555 ∷ 0x3ff55555 ∷ 0x4034e38e ∷ 0x41100000 ∷ 0xbe800000 ∷ 0x40400000 ∷ 0x40700000 ∷ 0x40400000 ∷ 0x42340000 ∷ 0x3fc00000 ∷ 0x40000000 ∷ 0x40400000 ∷ 0xbe844444 ∷ 0x40033333 ∷ 0x40415555 ∷ 0 ∷ 0xbf200000 ∷ 0x40a80000 ∷ 0x401c0000 ∷ 0 ∷ 0xbe955555 ∷ 0x3ff55555 ∷ 0x4034e38e ∷ 0x41100000 ∷ 0xbe800000 ∷ 0x3fc00000 ∷ 0x40700000 ∷ 0x3fe00000 ∷ 0x42200000 ∷ 0 ∷ 0xbf800000 ∷ 0xbf800000 ∷ 0xbe59999a ∷ 0x3fd33333 ∷ 0x40460000 ∷ 0 ∷ 0xbe800000 ∷ 0x3fc00000 ∷ 0x40700000 ∷ 0x41000000 ∷ 0xbe800000 ∷ 0x3fc00000 ∷ 0x40380000 ∷ 0x41000000 ∷ 0xbe800000 ∷ 0x40900000 ∷ 0x40700000 ∷ 0x3fe00000 ∷ 0x40a00000 ∷ 0x3fc00000 ∷ 0xbf800000 ∷ 0xbf800000 ∷ 0xbf200000 ∷ 0x40a80000 ∷ 0x401c0000 ∷ 0x41000000 ∷ 0xbf200000 ∷ 0x40a80000 ∷ 0x401c0000 ∷ 0x3f800000 ∷ 0xbf200000 ∷ 0x40a80000 ∷ 0x401c0000 ∷ 0x3f800000 ∷ 0x3fa00000 ∷ 0x40400000 ∷ 0x40700000 ∷ 0x40400000 ∷ 0 ∷ 0 ∷ 0xbf800000 ∷ 0xbf800000 ∷ 0xbf200000 ∷ 0x3f400000 ∷ 0x401c0000 ∷ 0 ∷ 0xbf200000 ∷ 0x3f400000 ∷ 0x401c0000 ∷ 0 ∷ 0xbf200000 ∷ 0x3f400000 ∷ 0x401c0000 ∷ 0 ∷ 0 ∷ 1 ∷ 2 ∷ 3 ∷ 5 ∷ 6 ∷ 7 ∷ 8 ∷ 4 ∷ [])
    -- g 192, record (192, 5, 0): refused 6, though its slot 1,152 is that of (0, 6, 0)
    ∷ builds (0x314d5952 ∷ 1 ∷ 192 ∷ 1 ∷ 0x4494c000 ∷ 0x3f000000 ∷ 0x40400000 ∷ 0 ∷ 0xbf800000 ∷ 0 ∷ 0x40000000 ∷ 0x40000000 ∷ 0x40c00000 ∷ 0x40b00000 ∷ 0 ∷ 0 ∷ 0x000500c0 ∷ 0 ∷ 0x40400000 ∷ 0 ∷ []) 7077888 6 0 0 []
    -- K2, not starred: two greatest masses, 22 with no room for a tree either
    ∷ builds (0x314d5952 ∷ 1 ∷ 2 ∷ 2 ∷ 0x4494c000 ∷ 0x3f000000 ∷ 0x40400000 ∷ 0 ∷ 0 ∷ 0 ∷ 0 ∷ 0x40000000 ∷ 0x40000000 ∷ 0x40000000 ∷ 0 ∷ 0 ∷ 0 ∷ 0 ∷ 0x7f7fffff ∷ 0 ∷ 1 ∷ 0 ∷ 0x7f7fffff ∷ 0 ∷ []) 8 22 0 0 []
    -- of one cell: 21 first
    ∷ builds (0x314d5952 ∷ 1 ∷ 2 ∷ 2 ∷ 0x4494c000 ∷ 0x3f000000 ∷ 0x40400000 ∷ 0 ∷ 0 ∷ 0 ∷ 0 ∷ 0x40000000 ∷ 0x40000000 ∷ 0x40000000 ∷ 0 ∷ 0 ∷ 0 ∷ 0 ∷ 0x7f7fffff ∷ 0 ∷ 0 ∷ 0 ∷ 0x7f7fffff ∷ 0 ∷ []) 8 21 0 0 []
    -- a sum of exactly 2^128 - 2^103, and one of 2^79 less
    ∷ builds (0x314d5952 ∷ 1 ∷ 2 ∷ 2 ∷ 0x4494c000 ∷ 0x3f000000 ∷ 0x40400000 ∷ 0 ∷ 0 ∷ 0 ∷ 0 ∷ 0x40000000 ∷ 0x40000000 ∷ 0x40000000 ∷ 0 ∷ 0 ∷ 0 ∷ 0 ∷ 0 ∷ 0x7f7fffff ∷ 1 ∷ 0 ∷ 0 ∷ 0x73000000 ∷ []) 8 22 0 0 []
    ∷ builds (0x314d5952 ∷ 1 ∷ 2 ∷ 2 ∷ 0x4494c000 ∷ 0x3f000000 ∷ 0x40400000 ∷ 0 ∷ 0 ∷ 0 ∷ 0 ∷ 0x40000000 ∷ 0x40000000 ∷ 0x40000000 ∷ 0 ∷ 0 ∷ 0 ∷ 0 ∷ 0 ∷ 0x7f7fffff ∷ 1 ∷ 0 ∷ 0 ∷ 0x72ffffff ∷ []) 8 152 1 2
    (0x314d5452 ∷ 2 ∷ 2 ∷ 2 ∷ 0x40400000 ∷ 0x4494c000 ∷ 0x3f000000 ∷ 0 ∷ 0 ∷ 0 ∷ 0 ∷ 0x40000000 ∷ 0x40000000 ∷ 0x40000000 ∷ 1 ∷ 0 ∷ 0x3f800000 ∷ 0x3f800000 ∷ 0x3f800000 ∷ 0x3f800000 ∷ 0 ∷ 0x7f7fffff ∷ 0xbf800000 ∷ 0xbf800000 ∷ 0x3f800000 ∷ 0x3f800000 ∷ 0x3f800000 ∷ 0 ∷ 0x3f000000 ∷ 0x3f000000 ∷ 0x3f000000 ∷ 0x40000000 ∷ 0x3f800000 ∷ 0x3f000000 ∷ 0x3f000000 ∷ 0x40000000 ∷ 0 ∷ 1 ∷ [])
    -- greatest, greatest, negative greatest in one leaf
    ∷ builds (0x314d5952 ∷ 1 ∷ 2 ∷ 3 ∷ 0x4494c000 ∷ 0x3f000000 ∷ 0x40400000 ∷ 0 ∷ 0 ∷ 0 ∷ 0 ∷ 0x40000000 ∷ 0x40000000 ∷ 0x40000000 ∷ 0 ∷ 0 ∷ 0 ∷ 0 ∷ 0x7f7fffff ∷ 0 ∷ 1 ∷ 0 ∷ 0x7f7fffff ∷ 0 ∷ 0x00010000 ∷ 0 ∷ 0xff7fffff ∷ 0 ∷ []) 8 156 1 3
    (0x314d5452 ∷ 2 ∷ 2 ∷ 3 ∷ 0x40400000 ∷ 0x4494c000 ∷ 0x3f000000 ∷ 0 ∷ 0 ∷ 0 ∷ 0 ∷ 0x40000000 ∷ 0x40000000 ∷ 0x40000000 ∷ 1 ∷ 0 ∷ 0x3f800000 ∷ 0x3f800000 ∷ 0x3f800000 ∷ 0x3f800000 ∷ 0x7f7fffff ∷ 0 ∷ 0xbf800000 ∷ 0xbf800000 ∷ 0x3fc00000 ∷ 0xbf000000 ∷ 0x3f000000 ∷ 0 ∷ 0x3f800000 ∷ 0x3f800000 ∷ 0x3f800000 ∷ 0x40400000 ∷ 0x3f555555 ∷ 0x3f555555 ∷ 0x3f000000 ∷ 0x40400000 ∷ 0 ∷ 1 ∷ 2 ∷ [])
    -- a child too large, the root not
    ∷ builds (0x314d5952 ∷ 1 ∷ 3 ∷ 9 ∷ 0x4494c000 ∷ 0x3f000000 ∷ 0x40400000 ∷ 0 ∷ 0 ∷ 0 ∷ 0 ∷ 0x40400000 ∷ 0x40400000 ∷ 0x40400000 ∷ 0 ∷ 0 ∷ 0 ∷ 0 ∷ 0x7f7fffff ∷ 0 ∷ 0x00010000 ∷ 0 ∷ 0x7f7fffff ∷ 0 ∷ 0x00020000 ∷ 0 ∷ 0 ∷ 0 ∷ 1 ∷ 0 ∷ 0xff7fffff ∷ 0 ∷ 0x00010001 ∷ 0 ∷ 0xff7fffff ∷ 0 ∷ 0x00020001 ∷ 0 ∷ 0 ∷ 0 ∷ 2 ∷ 0 ∷ 0 ∷ 0 ∷ 0x00010002 ∷ 0 ∷ 0 ∷ 0 ∷ 0x00020002 ∷ 0 ∷ 0 ∷ 0 ∷ []) 27 22 0 0 []
    -- a quotient too large, the sums small
    ∷ builds (0x314d5952 ∷ 1 ∷ 2 ∷ 2 ∷ 0x4494c000 ∷ 0x3f000000 ∷ 0x40400000 ∷ 0 ∷ 0 ∷ 0 ∷ 0 ∷ 0x77f684df ∷ 0x77f684df ∷ 0x77f684df ∷ 0 ∷ 0 ∷ 0 ∷ 0 ∷ 0x3f800000 ∷ 0 ∷ 1 ∷ 0 ∷ 0xbf7fffff ∷ 0 ∷ []) 8 22 0 0 []
    -- K4, not starred: in working form two words per 32 cells, rounded up, so two at g 1; with a pad that is not 0 a word per cell
    ∷ builds (point 0) 1 8 0 0 []
    ∷ builds (point 1) 1 148 1 1 point_tree
    ∷ builds (point 1) 0 8 0 0 []
    -- no record, one word short
    ∷ builds (0x314d5952 ∷ 1 ∷ 2 ∷ 0 ∷ 0x4494c000 ∷ 0x3f000000 ∷ 0x40400000 ∷ 0 ∷ 0 ∷ 0 ∷ 0 ∷ 0x40000000 ∷ 0x40000000 ∷ 0x40000000 ∷ 0 ∷ 0 ∷ []) 1 8 0 0 []
    -- the same tree from two words; what stands behind the last record is not read
    ∷ builds plane 2 340 3 9 plane_tree
    ∷ builds (plane ++ (0 ∷ 0xffff0000 ∷ 0 ∷ 0 ∷ [])) 2 340 3 9 plane_tree
    ∷ builds plane 1 8 0 0 []
    -- one cell twice: not in working form, so 8 comes first
    ∷ builds (0x314d5952 ∷ 1 ∷ 2 ∷ 2 ∷ 0x4494c000 ∷ 0x3f000000 ∷ 0x40400000 ∷ 0 ∷ 0 ∷ 0 ∷ 0 ∷ 0x40000000 ∷ 0x40000000 ∷ 0x40000000 ∷ 0 ∷ 0 ∷ 0 ∷ 0 ∷ 0 ∷ 0 ∷ 0 ∷ 0 ∷ 0 ∷ 0 ∷ []) 7 8 0 0 []
    -- K3, not starred: the most costly tree of a grid
    ∷ costs 0 3 0 0
    ∷ costs 1 0 1 148
    ∷ costs 2 0 1 176
    ∷ costs 3 0 9 892
    ∷ costs 4 0 15 1520
    ∷ costs 257 3 0 0
    -- its point file; without room for every cell 9, but 3 first
    ∷ writes 1 80 80
    (0x314d5952 ∷ 1 ∷ 1 ∷ 1 ∷ 0 ∷ 0 ∷ 0 ∷ 0 ∷ 0 ∷ 0 ∷ 0 ∷ 0x3f800000 ∷ 0x3f800000 ∷ 0x3f800000 ∷ 0 ∷ 0 ∷ 0 ∷ 0 ∷ 0x3f800000 ∷ 0x3f800000 ∷ [])
    ∷ writes 1 79 9 []
    ∷ writes 2 195 192
    (0x314d5952 ∷ 1 ∷ 2 ∷ 8 ∷ 0 ∷ 0 ∷ 0 ∷ 0 ∷ 0 ∷ 0 ∷ 0 ∷ 0x3f800000 ∷ 0x3f800000 ∷ 0x3f800000 ∷ 0 ∷ 0 ∷ 0 ∷ 0 ∷ 0x3f800000 ∷ 0x3f800000 ∷ 1 ∷ 0 ∷ 0x3f800000 ∷ 0x3f800000 ∷ 0x00010000 ∷ 0 ∷ 0x3f800000 ∷ 0x3f800000 ∷ 0x00010001 ∷ 0 ∷ 0x3f800000 ∷ 0x3f800000 ∷ 0 ∷ 1 ∷ 0x3f800000 ∷ 0x3f800000 ∷ 1 ∷ 1 ∷ 0x3f800000 ∷ 0x3f800000 ∷ 0x00010000 ∷ 1 ∷ 0x3f800000 ∷ 0x3f800000 ∷ 0x00010001 ∷ 1 ∷ 0x3f800000 ∷ 0x3f800000 ∷ [])
    ∷ writes 0 80 3 []
    ∷ writes 257 0 3 []
    -- g 2 with (1, 0, 0), 16 bytes to spare, 7 journal words: put (0, 0, 0), remove (1, 0, 0); then two undos
    ∷ edits (headed 1 ++ (right ++ spare)) (0 ∷ 8 ∷ 8 ∷ 8 ∷ 8 ∷ 8 ∷ 8 ∷ []) (put 0 0 0 0x40400000 0xc0800000 ∷ remove 1 0 0 ∷ [])
    (96 ∷ 80 ∷ [])
    (headed 1 ++ (left ++ zeros))
    (2 ∷ 0x40000000 ∷ 0 ∷ 0 ∷ 0xc0000001 ∷ 0x3f800000 ∷ 0x40000000 ∷ [])
    ∷ edits (headed 1 ++ (right ++ spare)) (0 ∷ 8 ∷ 8 ∷ 8 ∷ 8 ∷ 8 ∷ 8 ∷ []) (put 0 0 0 0x40400000 0xc0800000 ∷ remove 1 0 0 ∷ undo ∷ undo ∷ [])
    (96 ∷ 80 ∷ 96 ∷ 80 ∷ [])
    (headed 1 ++ (right ++ zeros))
    (0 ∷ 0 ∷ 0 ∷ 0 ∷ 0 ∷ 0 ∷ 0 ∷ [])
    -- crossings 10, 10.000009, 10.000018: two remain, outside
    ∷ thins (0x4024000000000000 ∷ 0x402400012dfd694d ∷ 0x402400025bfad29a ∷ []) (0x4024000000000000 ∷ 0x402400025bfad29a ∷ []) 0
    ∷ thins (0x402400025bfad29a ∷ 0x4024000000000000 ∷ 0x402400012dfd694d ∷ []) (0x4024000000000000 ∷ 0x402400025bfad29a ∷ []) 0
    ∷ []
