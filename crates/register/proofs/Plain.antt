-- The register's file in its plain words is the header and records of rym1's definitions. Assumes nothing.
use Prim.Native.Nat.{ℕ, zero, suc, ◌+◌, ◌*◌, ◌/◌, ◌%◌, ◌<◌}
use mathlib.Core.Path.{◌≡◌, refl, sym, ap, ◌∙◌}
use mathlib.Core.Option.{Option, none, some}
use mathlib.Core.List.{List, [], ◌∷◌, ◌++◌, append_assoc, append-nil}
use native.Mathlib.Nat.{add-zero, add-suc, suc-mul, zero-mul}
use native.Mathlib.Numerals.{add-one}
use native.Mathlib.Omega.{arith}
use lib.ListN.{length, length-append}
use lib.Arith.{digits_div, digits_mod}
use Rattle.rym1.specs.Bytes.{le, splice}
use Rattle.rym1.specs.File.{grid, point_bytes, points_bytes, cube}
use Rattle.rym1.specs.Cells.{Masses, Map, cell_point, at_cell, records_from, records}
use Rattle.rym1.specs.Open as files
use Rattle.rym1.specs.Open.{counted}
use Rattle.rym1.proofs.Points.{points_append}
use Rattle.rym1.proofs.Cells.{records_more}
use Rattle.register.specs.Register.{Register, cell_at, one, rank, population, bytes, each, record_bytes, all_bytes, header_of, file_of}

-- ---- how many cells are in the map

pub rank_is : (g : ℕ) (m : Map) (c : ℕ) → rank m c ≡ length (records_from g m 0 c)
unfolding rank records_from
rank_is g m zero = refl
rank_is g m (suc c) =
    let more : length (records_from g m 0 (suc c)) ≡ length (records_from g m 0 c) + length (at_cell g c (m c) []) =
    ap (λ (n : ℕ). length (records_from g m 0 n)) (sym (add-one c)) ∙ ap length (records_more g m c) ∙ length-append (records_from g m 0 c) (at_cell g c (m c) []) in
    ap (λ (n : ℕ). n + one (m c)) (rank_is g m c) ∙ ap (λ (n : ℕ). length (records_from g m 0 c) + n) (here (m c)) ∙ sym more
  where
    here : (o : Option Masses) → one o ≡ length (at_cell g c o [])
    here none = unfold one at_cell in refl
    here (some v) = unfold one at_cell in refl

pub population_is : (r : Register) → population r ≡ length (records (grid r.header) r.cells)
unfolding population records cube
population_is r = rank_is (grid r.header) r.cells _

-- ---- bytes

pub bytes_is : (k n : ℕ) → bytes k n ≡ le k n
unfolding bytes le
bytes_is zero n = refl
bytes_is (suc k) n = ap (λ (l : List ℕ). n % 256 ∷ l) (bytes_is k (n / 256))

each_ext : (n : ℕ) (f f' : ℕ → List ℕ) → ((i : ℕ) → i < n → f i ≡ f' i) → each n f ≡ each n f'
unfolding each
each_ext zero f f' e = refl
each_ext (suc n) f f' e = rw (each_ext n f f' (λ i l. e i (omega arith)), e n (omega arith))

each_add : (n k : ℕ) (f : ℕ → List ℕ) → each (n + k) f ≡ each n f ++ each k (λ i. f (n + i))
unfolding each
each_add n zero f = rw (add-zero n) (sym (append-nil (each n f)))
each_add n (suc k) f = rw (add-suc n k, each_add n k f) (append_assoc (each n f) (each k (λ i. f (n + i))) (f (n + k)))

each_mul : (a g : ℕ) (f : ℕ → List ℕ) → each (a * g) f ≡ each a (λ q. each g (λ x. f (q * g + x)))
unfolding each
each_mul zero g f = rw (zero-mul g)
each_mul (suc a) g f =
    let e : suc a * g ≡ a * g + g = suc-mul a g in
    rw e (each_add (a * g) g f) ∙ ap (λ (l : List ℕ). l ++ each g (λ x. f (a * g + x))) (each_mul a g f)

one_cell : (g c : ℕ) (o : Option Masses) → points_bytes (at_cell g c o []) ≡ record_bytes (c % g) (c / g % g) (c / g / g) o
unfolding at_cell points_bytes record_bytes point_bytes cell_point
one_cell g c none = refl
one_cell g c (some v) =
    rw (bytes_is 2 (c % g), bytes_is 2 (c / g % g), bytes_is 2 (c / g / g), bytes_is 2 0, bytes_is 4 v.cauchy, bytes_is 4 v.elliptic)
    (append-nil _)

run_is : (g : ℕ) (m : Map) (n : ℕ) → points_bytes (records_from g m 0 n) ≡ each n (λ c. record_bytes (c % g) (c / g % g) (c / g / g) (m c))
unfolding each
run_is g m zero = unfold records_from points_bytes in refl
run_is g m (suc n) =
    ap (λ (k : ℕ). points_bytes (records_from g m 0 k)) (sym (add-one n))
    ∙ ap points_bytes (records_more g m n)
    ∙ points_append (records_from g m 0 n) (at_cell g n (m n) [])
    ∙ rw (run_is g m n, one_cell g n (m n))

-- z outermost, x innermost, is ascending by cell number
pub all_bytes_law : (g : ℕ) (m : Map) → all_bytes g m ≡ points_bytes (records g m)
unfolding records cube all_bytes cell_at
all_bytes_law g m = sym (run_is g m (g * g * g) ∙ each_mul (g * g) g _ ∙ each_mul g g _ ∙ each_ext g _ _ (λ z hz. each_ext g _ _ (λ y hy. each_ext g _ _ (λ x hx. place x y z hx hy))))
  where
    place : (x y z : ℕ) → x < g → y < g
        → record_bytes (((z * g + y) * g + x) % g) (((z * g + y) * g + x) / g % g) (((z * g + y) * g + x) / g / g) (m ((z * g + y) * g + x))
        ≡ record_bytes x y z (m ((z * g + y) * g + x))
    place x y z hx hy = rw (digits_mod (z * g + y) hx, digits_div (z * g + y) hx, digits_mod z hy, digits_div z hy)

-- ---- the file

pub header_of_law : (r : Register) → header_of r ≡ counted r.header (length (records (grid r.header) r.cells))
unfolding header_of counted splice
header_of_law r = rw (population_is r, bytes_is 4 (length (records (grid r.header) r.cells))) (unfold le in refl)

pub file_of_law : (r : Register) → file_of r ≡ files.file_of r.header (records (grid r.header) r.cells)
unfolding file_of files.file_of
file_of_law r = rw (header_of_law r, all_bytes_law (grid r.header) r.cells)
