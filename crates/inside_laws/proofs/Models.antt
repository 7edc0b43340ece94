-- Small cases, computed. Assumes nothing.
use mathlib.Core.Path.{◌≡◌, refl}
use mathlib.Core.List.{[], ◌∷◌}
use Rattle.inside_laws.specs.Walk.{cell_of, fresh, cleared, next_stamp, met, slot, cell}

number : cell_of 1 2 3 ≡ 27841
unfolding cell_of
number = refl

-- the next stamp, and the one at which all are cleared
next_point : next_stamp (record { seen = 3 ∷ 0 ∷ 7 ∷ []; stamp = 7 }) ≡ record { seen = 3 ∷ 0 ∷ 7 ∷ []; stamp = 8 }
unfolding next_stamp
next_point = refl

wrapped : next_stamp (record { seen = 3 ∷ 0 ∷ 0x7fff_fffe ∷ []; stamp = 0x7fff_fffe }) ≡ record { seen = 0 ∷ 0 ∷ 0 ∷ []; stamp = 1 }
unfolding next_stamp cleared
wrapped = refl

-- two cells with triangles in common: each is found once, in the order in which they are met
walked : cell (cell (record { found = []; state = next_stamp (fresh 4) }) (1 ∷ 3 ∷ [])) (0 ∷ 1 ∷ 3 ∷ []) ≡ record { found = 1 ∷ 3 ∷ 0 ∷ []; state = record { seen = 1 ∷ 1 ∷ 0 ∷ 1 ∷ []; stamp = 1 } }
unfolding next_stamp fresh met slot cell
walked = refl

-- the next point finds them again
again : (cell (record { found = []; state = next_stamp (record { seen = 1 ∷ 1 ∷ 0 ∷ 1 ∷ []; stamp = 1 }) }) (1 ∷ 2 ∷ 1 ∷ [])).found ≡ 1 ∷ 2 ∷ []
unfolding next_stamp met slot cell
again = refl
