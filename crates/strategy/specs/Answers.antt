-- Strategy's answer in the words of its definition (Strategy 1).
-- Assumes nothing.
use Rattle.std.specs.Prelude.{Result, Ok, Err}
use Rattle.sheet.specs.Format.{Bytes}
use Rattle.sheet.specs.Strategy as strategies
use Rattle.sheet.specs.Strategy.{strategy_refused, strategy_stopped, strategy_written, strategy_too_long, Winning}
use Rattle.rows.specs.Refusals.{number_of, place_of}
use Rattle.rows.specs.declared.refusals.Refusal.{Refusal}
use Rattle.solve.specs.Answers.{verdict_of}
use Rattle.strategy.specs.declared.StrategyAnswer.{StrategyAnswer}
use Rattle.strategy.specs.declared.StrategyAnswer.TheVariants.{Stopped, Written, TooLong}

-- refused with number and place, and stopped at a variable, as Solve; ended with a verdict, its counts and the length of the strategy's
-- sheet; or with how many node rows that sheet has, if it doesn't fit
abbrev pub strategy_told : Result StrategyAnswer Refusal → strategies.StrategyAnswer
strategy_told (Ok (Stopped x settled expanded)) = strategy_stopped x settled expanded
strategy_told (Ok (Written v settled expanded length)) = strategy_written (verdict_of v) settled expanded length
strategy_told (Ok (TooLong v settled expanded rows)) = strategy_too_long (verdict_of v) settled expanded rows
strategy_told (Err e) = strategy_refused (number_of e) (place_of e)

-- with what the two work buffers and the output then hold
abbrev pub leaves : Result StrategyAnswer Refusal → Bytes → Bytes → Bytes → Winning
leaves r first second out = record { answer = strategy_told r; first = first; second = second; output = out }
