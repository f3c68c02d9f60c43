-- `polarity::value::value_at` meets its contract: by the variable's four entries.
use Rattle.std.proofs.Common.{◌∙◌, rules, ap}
use Rattle.polarity.specs.Value.{quantifier_at}
use Rattle.polarity.proofs.Settling.{quantifier_read, value-signed}
use Rattle.polarity.proofs.value.value_at.Goals as goal

pub returns : goal.returns
returns c =
    c.settling_by.ensures ∙
    value-signed (ap quantifier_at c.is_existential.ensures ∙ quantifier_read _) c.signs_at.ensures c.bound_at-x.ensures.0 (search rules) c.requires.2
