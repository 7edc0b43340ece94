-- Steps in binary64, each rounded once, and vectors of three, grouped as in model.rs. Definitions only.
use Rattle.std.specs.Float.Ieee as ieee
use Rattle.std.specs.Prelude.{Float}
use Rattle.std.specs.Float.{binary64}
use Rattle.filling.specs.declared.Vec3.{Vec3}

-- x + y, x − y, x · y, x ÷ y
abbrev pub plus : Float → Float → Float
plus x y = ieee.add binary64 x y

abbrev pub minus : Float → Float → Float
minus x y = ieee.sub binary64 x y

abbrev pub times : Float → Float → Float
times x y = ieee.mul binary64 x y

abbrev pub over : Float → Float → Float
over x y = ieee.div binary64 x y

abbrev pub vec : Float → Float → Float → Vec3
vec x y z = record { x = x; y = y; z = z }

unfoldable pub sub : Vec3 → Vec3 → Vec3
sub a b = vec (minus a.x b.x) (minus a.y b.y) (minus a.z b.z)

unfoldable pub cross : Vec3 → Vec3 → Vec3
cross a b =
    vec
    (minus (times a.y b.z) (times a.z b.y))
    (minus (times a.z b.x) (times a.x b.z))
    (minus (times a.x b.y) (times a.y b.x))

unfoldable pub dot : Vec3 → Vec3 → Float
dot a b = plus (plus (times a.x b.x) (times a.y b.y)) (times a.z b.z)
