-- A clone has the variant of the command and its value, kind by kind.
use Rattle.std.proofs.Common.{◌≡◌, rules}
use Rattle.std.specs.Prelude.{IfOk, Result, Ok, Err}
use Rattle.std.specs.Result.{MatchResult}
use Rattle.std.specs.declared.alloc.AllocError.{AllocError}
use Rattle.escpos_command.specs.declared.command.Command.{Command}
use Rattle.escpos_command.specs.contracts.command.CommandClone.TheImpl.{by_variants}
use Rattle.escpos_command.proofs.laws.same_clone.Goals as goal

same : (c d : Command) → by_variants c d → d ≡ c
same c d h = search rules

if_ok : (c : Command) (failed : AllocError → Type 0) (result : Result Command AllocError) → MatchResult result (by_variants c) failed → IfOk result (λ d. d ≡ c)
if_ok c failed (Ok d) h = same c d h
if_ok c failed (Err e) h = tt

pub returns : goal.returns
returns c = if_ok c.args.command.now _ c.clone.result c.clone.ensures.cases
