-- Step records in the words of the definition.
-- Assumes nothing.
use Rattle.sheet.specs.Steps.{Operation as Named, settling, expanding, Step as Record}
use Rattle.checking.specs.Answers.{written_answer}
use Rattle.step_list.specs.declared.Operation.{Operation}
use Rattle.step_list.specs.declared.Operation.TheVariants.{Settle, Expand}
use Rattle.step_list.specs.declared.Step.{Step}

abbrev pub operation_of : Operation → Named
operation_of Settle = settling
operation_of Expand = expanding

-- N2: "its operation, its variable and a place for its answer"
abbrev pub step_of : Step → Record
step_of s = record { operation = operation_of s.operation; variable = s.variable; answer = written_answer s.answer }
