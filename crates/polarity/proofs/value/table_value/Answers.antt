-- `polarity::value::table_value` meets its contract: by the four entries.
use Rattle.std.proofs.Common.{◌≡◌, Bool, true, false, not, refl, ℕ, get_or, List, [], ◌∷◌}
use Rattle.std.specs.Int.{from_bool}
use Rattle.formula.specs.Settle.{value}
use Rattle.polarity.specs.Value.{quantifier_at}
use Rattle.polarity.proofs.value.table_value.Goals as goal

table : (e p : Bool) {i j : ℕ} → i ≡ from_bool (not e) → j ≡ from_bool (not p)
    → get_or (get_or {A = List Bool} ((true ∷ false ∷ []) ∷ (false ∷ true ∷ []) ∷ []) i []) j false ≡ value (quantifier_at e) p
unfolding value
table true true h k = rw (h, k) refl
table true false h k = rw (h, k) refl
table false true h k = rw (h, k) refl
table false false h k = rw (h, k) refl

pub returns : goal.returns
returns c = table c.args.existential c.args.positive c.from.ensures c.from-2.ensures
