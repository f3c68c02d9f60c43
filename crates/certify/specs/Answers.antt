-- An answer of Certify as one of the steps that words say.
-- Assumes nothing.
use Rattle.std.specs.Prelude.{Result, Ok, Err}
use Rattle.formula.specs.Certificates as formula
use Rattle.sheet.specs.Check.{Answer, accepted}
use Rattle.rows.specs.Refusals.{refused_by}
use Rattle.rows.specs.declared.refusals.Refusal.{Refusal}
use Rattle.certify.specs.declared.Certified.{Certified}
use Rattle.certify.specs.declared.Certified.TheVariants.{Certain, Uncertain}

-- "certified with the verdict, or not certified with the number"
abbrev pub judgement : Certified → formula.Certified
judgement (Certain verdict) = formula.certain verdict
judgement (Uncertain number) = formula.uncertain number

-- the same, or "refused"
abbrev pub certified_answer : Result Certified Refusal → Answer formula.Certified
certified_answer (Ok c) = accepted (judgement c)
certified_answer (Err e) = refused_by e
