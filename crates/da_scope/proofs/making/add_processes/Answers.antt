use Rattle.std.proofs.Common.{◌≡◌, ◌∙◌, ◌++◌, ap, sym, ℕ, List, arith}
use Rattle.std.specs.Prelude.{bytes_eq, position, unwrap_or}
use Rattle.da_lang.specs.declared.program.ProcDecl.{ProcDecl}
use Rattle.da_lang.specs.declared.tree.ClassTree.{ClassTree}
use Rattle.da_lang.specs.Resolution.{made_count, place_of_class}
use Rattle.da_scope.proofs.MakingAt.{procs_line}
use Rattle.da_scope.proofs.making.add_processes.Goals as goal

pub returns-after-loop-turn : goal.returns-after-loop-turn
returns-after-loop-turn c =
    let class = c.place_of-class.result in
    let place : class ≡ place_of_class c.args.t.now c.in-New.class =
    c.place_of-class.ensures ∙ ap (λ (cs : List ClassTree). unwrap_or (position (λ (k : ClassTree). bytes_eq k.name c.as_slice-in-New.result.now) cs) 0) c.as_slice.ensures
    ∙ ap (λ (n : List ℕ). unwrap_or (position (λ (k : ClassTree). bytes_eq k.name n) c.args.t.now.classes) 0) c.as_slice-in-New.ensures in
    let counted : c.loop-turn.turn ≡ made_count c.args.line.now = omega (arith, c.loop-turn.auto.turn-end) ∙ c.count_made-turn-end.ensures in
    c.loop-turn.invariant
    ∙ ap (λ (ps : List ProcDecl). c.args.procs.now ++ ps) (procs_line c.args.t.now c.args.line.now c.in-New.name c.in-New.class c.in-New.count c.in-New.line c.args.scope.now class c.loop-turn.turn c.in-New.is c.requires.scope place counted)
