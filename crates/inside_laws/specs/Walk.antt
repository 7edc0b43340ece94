-- The original's accelerator as a function on values: the lists of its 96 by 96 by 96 cells (`InsideAccelerator::new`), and the walk along the
-- cells of a row, in which a stamp says of each triangle whether the point has met it (`inside`). Definitions only.
use Rattle.std.specs.Prelude.{ℕ, zero, suc, ◌+◌, ◌-◌, ◌*◌, ◌/◌, ◌%◌, ◌≤◌, ◌<◌, ◌≡◌, Bool, cond, ◌&&◌, length, take, drop, get_or, set, replicate, eqb, leb, Float}
use mathlib.Core.List.{List, [], ◌∷◌, ◌++◌, Permᴰ}
use Rattle.filling.specs.declared.Vec3.{Vec3}
use Rattle.filling.specs.declared.Bounds.{Bounds}
use Rattle.filling.specs.declared.Indices.{Indices}
use Rattle.filling.specs.Ray.{ray}
use Rattle.filling.specs.Inside.{indices, low_of, high_of, listed, odd_rest}
use Rattle.filling.specs.Rows.{entries_of, starts_of, triangle_of}

-- ---- cells

-- a cell's number: x the fastest, then y, then z
unfoldable pub cell_of : ℕ → ℕ → ℕ → ℕ
cell_of i j k = (k * 96 + j) * 96 + i

-- the range from low to high holds n
unfoldable pub between : ℕ → ℕ → ℕ → Bool
between low high n = leb low n && leb n high

-- the ranges of the triangle t hold the cell c; s: the mesh's bytes, b: the padded box
unfoldable pub holds : List ℕ → Bounds → ℕ → ℕ → Bool
holds s b t c =
    let low = low_of b (triangle_of s t) in
    let high = high_of b (triangle_of s t) in
    between low.i high.i (c % 96) && (between low.j high.j (c / 96 % 96) && between low.k high.k (c / 96 / 96))

-- where the list of each cell starts, and behind the last one the number of entries; n: how many triangles
unfoldable pub offsets : List ℕ → Bounds → ℕ → List ℕ
offsets s b n = starts_of (holds s b) n 884737

-- the lists of all cells on end, each ascending
unfoldable pub slots : List ℕ → Bounds → ℕ → List ℕ
slots s b n = entries_of (holds s b) n 884736

-- what the walk reads of cell c: the slots from its offset up to the next one's
unfoldable pub cell_slots : List ℕ → Bounds → ℕ → ℕ → List ℕ
cell_slots s b n c = let from = get_or (offsets s b n) c 0 in take (get_or (offsets s b n) (c + 1) 0 - from) (drop from (slots s b n))

-- ---- stamps

-- of each triangle the stamp of the last point that met it, and the last point's stamp
pub record Stamps : Type 0 where
  pub seen : List ℕ
  pub stamp : ℕ

-- before the first point, of n triangles
unfoldable pub fresh : ℕ → Stamps
fresh n = record { seen = replicate n 0; stamp = 0 }

-- all cleared, and the first stamp
unfoldable pub cleared : Stamps → Stamps
cleared st = record { seen = replicate (length st.seen) 0; stamp = 1 }

-- the next point's: one more, but where that is 0x7fffffff all are cleared
unfoldable pub next_stamp : Stamps → Stamps
next_stamp st = let next = st.stamp + 1 in cond (eqb next 0x7fff_ffff) (cleared st) (record { seen = st.seen; stamp = next })

-- a state that points leave behind, with n triangles
pub record Fit (n : ℕ) (st : Stamps) : Type 0 where
  pub long : length st.seen ≡ n
  pub past : (t : ℕ) → t < n → get_or st.seen t 0 ≤ st.stamp
  pub low : st.stamp < 0x7fff_ffff

-- ---- the walk

-- the triangles found so far, in the order in which they are met, and the state
pub record Walked : Type 0 where
  pub found : List ℕ
  pub state : Stamps

-- the point has met the triangle t
unfoldable pub met : Stamps → ℕ → Bool
met st t = eqb (get_or st.seen t 0) st.stamp

-- one slot, which holds t: passed over where t is met, else marked and found
unfoldable pub slot : Walked → ℕ → Walked
slot w t =
    let st = w.state in
    cond (met st t) w (record { found = w.found ++ t ∷ []; state = record { seen = set st.seen t st.stamp; stamp = st.stamp } })

-- the slots of a cell
unfoldable pub cell : Walked → List ℕ → Walked
cell w [] = w
cell w (t ∷ l) = cell (slot w t) l

-- m cells of the row (j, k), from i on
unfoldable pub row : List ℕ → Bounds → ℕ → ℕ → ℕ → ℕ → ℕ → Walked → Walked
row s b n j k zero i w = w
row s b n j k (suc m) i w = row s b n j k m (i + 1) (cell w (cell_slots s b n (cell_of i j k)))

-- a point's: its row from its own cell to the last one
unfoldable pub walk : List ℕ → Bounds → ℕ → Indices → Stamps → Walked
walk s b n at st = row s b n at.j at.k (96 - at.i) at.i (record { found = []; state = next_stamp st })

-- what is found for each of a list of points, the state handed on
unfoldable pub walks : List ℕ → Bounds → ℕ → List Vec3 → Stamps → List (List ℕ)
walks s b n [] st = []
walks s b n (o ∷ os) st = let w = walk s b n (indices b o) st in w.found ∷ walks s b n os w.state

-- ---- the answer

-- the crossings of those found, in that order
unfoldable pub hits : List ℕ → Vec3 → List ℕ → List Float
hits s o [] = []
hits s o (t ∷ l) = listed (ray o (triangle_of s t)) ++ hits s o l

-- whether each of a list of points is inside, the state handed on
unfoldable pub answers : List ℕ → Bounds → ℕ → List Vec3 → Stamps → List Bool
answers s b n [] st = []
answers s b n (o ∷ os) st = let w = walk s b n (indices b o) st in odd_rest (hits s o w.found) ∷ answers s b n os w.state

-- ---- the words of the theorems

-- each list is a permutation of the one in its place
unfoldable pub Permuted : List (List ℕ) → List (List ℕ) → Type 0
Permuted [] [] = Unit {0}
Permuted [] (m ∷ ms) = ⊥
Permuted (l ∷ ls) [] = ⊥
Permuted (l ∷ ls) (m ∷ ms) = Permᴰ l m × Permuted ls ms
