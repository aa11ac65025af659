use Rattle.std.proofs.Common.{◌≡◌, ℕ, List, [], get_or}
use Rattle.std.proofs.lemmas.List.{get_or_default}
use denote.Bor.{Bor}
use Rattle.da_scope.proofs.LabelLaws.{count_step, numbers_step}
use Rattle.da_scope.proofs.labels.numbered.Goals as goal

-- what a place of a list without an element would give
abbrev nothing : Bor (List ℕ)
nothing = record { ref_ptr = (0, 0); now = [] }

pub loop-name-preserved : goal.loop-name-preserved
loop-name-preserved c =
    let s = c.loop-name.invariant in
    let i = c.loop-name.name-index in
    let names = c.args.names.now in
    let name = get_or names i nothing in
    let there : name ≡ get_or names i name = get_or_default names i nothing name c.loop-name-test.true in
    record {
      number = count_step _ _ _ s.number c.in_ok-number.ensures;
      numbers = λ q. numbers_step names i name _ _ q _ _ c.loop-name-test.true there s.number c.in_ok-number.ensures (s.numbers q) (c.in_ok-put_number.ensures q);
    }
