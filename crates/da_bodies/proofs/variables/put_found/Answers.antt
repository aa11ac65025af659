use Rattle.std.proofs.Common.{◌∙◌, sym, ap, ◌++◌, flat_map}
use Rattle.std.proofs.lemmas.List.{append-nil}
use Rattle.da_lang.specs.declared.tree.Expr.TheVariants as ex
use Rattle.da_bodies.specs.Repeats.{declared_in}
use Rattle.da_bodies.specs.Variables.{gen_variables_at}
use Rattle.da_bodies.proofs.ListSteps.{on_same}
use Rattle.da_bodies.proofs.VariablesAt.{found_at-some, found_at-each, found_at-none}
use Rattle.da_bodies.proofs.variables.put_found.Goals as goal

pub returns-then-each : goal.returns-then-each
returns-then-each c =
    let q = c.in-Quant in
    sym (ap (λ ds. declared_in c.args.out.now ++ ds) (found_at-each c.args.line c.args.cond.now q.gens q.cond (q.is ∙ ap (λ b. ex.Quant b q.gens q.cond) c.if-each.true)) ∙ append-nil (declared_in c.args.out.now))

pub returns-else-each : goal.returns-else-each
returns-else-each c =
    let q = c.in-Quant in
    on_same c.put_gens.result (declared_in c.put_gens.new.out) _ _ c.put_gens.ensures
    (ap (λ ds. declared_in c.args.out.now ++ ds) (ap (flat_map (gen_variables_at c.args.line)) c.as_slice.ensures ∙ sym (found_at-some c.args.line c.args.cond.now q.gens q.cond (q.is ∙ ap (λ b. ex.Quant b q.gens q.cond) c.if-each.false))))

pub returns-in_default : goal.returns-in_default
returns-in_default c =
    sym (ap (λ ds. declared_in c.args.out.now ++ ds) (found_at-none c.args.line c.args.cond.now c.in_default.not-Quant) ∙ append-nil (declared_in c.args.out.now))
