-- Laws of permutations of lists. Assumes nothing.
use Prim.Native.Nat.{suc}
use mathlib.Core.Path.{◌≡◌, refl, ap, ◌∙◌, subst}
use mathlib.Core.List.Permᴰ
use mathlib.Core.List.{List, [], ◌∷◌, ◌++◌, Permᴰ}
use lib.ListN.{length}

module _ {A : Type 0} where
  pub perm_length : {l m : List A} → Permᴰ l m → length l ≡ length m
  perm_length Permᴰ.nil = refl
  perm_length (Permᴰ.cons e d) = ap suc (perm_length d)
  perm_length (Permᴰ.swap e f) = refl
  perm_length (Permᴰ.trans d e) = perm_length d ∙ perm_length e

  pub perm_append : {l m l' m' : List A} → Permᴰ l m → Permᴰ l' m' → Permᴰ (l ++ l') (m ++ m')
  perm_append {l} {m} {l'} {m'} d e = Permᴰ.trans (Permᴰ.append_right l' d) (Permᴰ.append_left m e)

  pub perm_of_eq : {l m : List A} → l ≡ m → Permᴰ l m
  perm_of_eq {l} e = subst (λ (k : List A). Permᴰ l k) e (Permᴰ.refl l)

  front : (b c d : List A) → Permᴰ (b ++ (c ++ d)) (c ++ (b ++ d))
  front [] c d = Permᴰ.refl (c ++ d)
  front (x ∷ b) c d = Permᴰ.trans (Permᴰ.cons refl (front b c d)) (Permᴰ.symm (Permᴰ.middle x c (b ++ d)))

  pub perm_shuffle : (a b c d : List A) → Permᴰ (a ++ b ++ (c ++ d)) (a ++ c ++ (b ++ d))
  perm_shuffle [] b c d = front b c d
  perm_shuffle (x ∷ a) b c d = Permᴰ.cons refl (perm_shuffle a b c d)
