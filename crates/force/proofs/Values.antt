-- Bytes that are values, as the check of all of them tells.
-- Assumes nothing.
use mathlib.Core.Path.{◌≡◌, refl, ap}
use mathlib.Core.Bool.{Bool, ◌&&◌}
use mathlib.Core.List.{[], ◌∷◌}
use lib.Dec.{leb}
use Rattle.std.specs.List.{list_all}
use Rattle.sheet.specs.Format.{Bytes}
use Rattle.sheet.specs.Force.{are_values}

pub values_all : (vs : Bytes) → list_all (λ v. leb v 1) vs ≡ are_values vs
unfolding are_values
values_all [] = refl
values_all (v ∷ vs) = ap (λ (m : Bool). leb v 1 && m) (values_all vs)
