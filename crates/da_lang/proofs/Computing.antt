-- Rules by which examples are worked out.
use Rattle.std.specs.Prelude.{ℕ, ◌<◌}
use Rattle.std.proofs.Common.{arith}
use Rattle.da_lang.specs.declared.program.ItemKind.TheVariants.{outs-Assign, outs-Add, outs-Del, outs-Send, outs-Output, outs-If, outs-While, outs-For, outs-Call, outs-Await, outs-Label, outs-Pass}
use Rattle.da_lang.specs.declared.program.ItemKind.TheViews.{out-roll-Alt, out-roll-Item, out-roll-RBranch}
use Rattle.da_lang.specs.declared.tree.Expr.TheVariants.{outs-Quant, outs-Name, outs-Int, outs-Truth}
use Rattle.da_lang.specs.BodyMeaning.{body_of, body_with, after_label, block, states, labels, calling, changing, with_expr, with_exprs, copy_of, as_alt, as_branch, bound, await_one}
use Rattle.da_lang.proofs.EvaluationLaws.{evaluating}
use Rattle.da_lang.specs.ExprMeaning.{all_outside}
use Rattle.da_lang.specs.ExprNames.{refused_in, found_names}
use Rattle.da_lang.specs.Resolution.{resolved_args, procs_of, setup_call, message_matching, sender_matching, from_matching, handler_binds, setup_items, run_items, handlers, handler}
use Rattle.da_lang.specs.Runs.{max_turns}
use Rattle.da_lang.specs.StmtNames.{beside, says, changes, guarded, looped}
use Rattle.da_lang.specs.Written.{asks, reads_clock}
use Rattle.da_lang.proofs.DeedsAt.{doing}
use Rattle.da_lang.proofs.LengthLaws.{measuring}
use Rattle.da_lang.proofs.LiveLaws.{living}
use Rattle.da_lang.proofs.MeantAt.{meaning}
use Rattle.da_lang.proofs.NamesAt.{naming, names_of-Name}
use Rattle.da_lang.proofs.QueryLaws.{asking}
use Rattle.da_lang.proofs.StatingAt.{stating_at, stating_in, guarding-of}
use Rattle.da_lang.proofs.StmtNamesAt.{naming_stmts}
use Rattle.da_lang.proofs.WritingAt.{written}

-- turns and steps of a process
pub ruleset turning = (evaluating, asking, measuring, out-roll-Item, out-roll-RBranch, outs-Assign, outs-Add, outs-Del, outs-Send, outs-Output, outs-If, outs-While, outs-For, outs-Call, outs-Await, outs-Label, outs-Pass)

pub ruleset stepping = (turning, out-roll-Alt)

-- whether a process takes a message
pub ruleset taking = (stepping, living)

-- the first turns of an event are not its last
pub early : (n : ℕ) → n < 9 → n < max_turns
unfolding max_turns
early n few = omega (arith, few)

-- the refusals of a tree by names, and what its classes become
pub ruleset finding = (doing, naming, naming_stmts, written, beside, outs-Quant, outs-Name, outs-Int, outs-Truth, refused_in, says, changes, guarded, looped, found_names, asks, reads_clock)

pub ruleset resolving = (meaning, naming, resolved_args, procs_of, setup_call, message_matching, sender_matching, from_matching, handler_binds, stating_at, stating_in, guarding-of, body_of, body_with, after_label, block, states, labels, calling, changing, with_expr, with_exprs, copy_of, as_alt, as_branch, bound, await_one, setup_items, run_items, handlers, handler, all_outside, outs-Quant, outs-Name, outs-Int, outs-Truth, found_names)
