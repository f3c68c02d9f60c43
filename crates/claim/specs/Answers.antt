-- Claim's answer and its side in the words of their definitions (Strategy 1).
-- Assumes nothing.
use Rattle.std.specs.Prelude.{ℕ, Result, Ok, Err}
use Rattle.formula.specs.Tree.{Quantifier, exists, for_all}
use Rattle.sheet.specs.Format.{Bytes}
use Rattle.sheet.specs.Strategy.{claim_refused, claim_written, Claiming}
use Rattle.sheet.specs.Strategy as strategies
use Rattle.rows.specs.Refusals.{number_of, place_of}
use Rattle.claim.specs.declared.ClaimRefusal.{ClaimRefusal}
use Rattle.claim.specs.declared.ClaimRefusal.TheVariants.{Output, Sheet, Strategy}
use Rattle.claim.specs.declared.Side as sides
use Rattle.claim.specs.declared.Side.{Side}

abbrev pub side_of : Side → Quantifier
side_of sides.TheVariants.Exists = exists
side_of sides.TheVariants.ForAll = for_all

-- refused for the first sheet (1), the strategy's (2) or the output (0) with number and place; or the length of the sheet written
abbrev pub claimed_answer : Result ℕ ClaimRefusal → strategies.Claimed
claimed_answer (Ok length) = claim_written length
claimed_answer (Err (Output e)) = claim_refused 0 (number_of e) (place_of e)
claimed_answer (Err (Sheet e)) = claim_refused 1 (number_of e) (place_of e)
claimed_answer (Err (Strategy e)) = claim_refused 2 (number_of e) (place_of e)

-- with what the output then holds
abbrev pub claimed_with : Result ℕ ClaimRefusal → Bytes → Claiming
claimed_with r out = record { answer = claimed_answer r; output = out }
