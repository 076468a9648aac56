-- A letter decides: the tests of a definition one behind the other.
use Rattle.std.specs.Prelude.{if◌then◌else◌}
use mathlib.Core.Bool.{Bool, true, false}
use mathlib.Core.Path.{◌≡◌, refl}

-- a test that decides on two sides
pub if_alike : {A : Type 0} {B : Type 0} {R : Type 0} (f : A → R) (g : B → R) (t : Bool) (x y : A) (u v : B)
    → (t ≡ true → f x ≡ g u) → (t ≡ false → f y ≡ g v) → f (if t then x else y) ≡ g (if t then u else v)
if_alike f g true x y u v p q = p refl
if_alike f g false x y u v p q = q refl
