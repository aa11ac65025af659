use Rattle.std.proofs.Common.{◌≡◌, ◌∙◌, ◌+◌, ℕ, List, [], Option, None, get_or, refl, sym, take}
use Rattle.std.proofs.lemmas.List.{get_or_default}
use denote.Bor.{Bor}
use Rattle.da_lang.specs.declared.ty.Ty.{Ty}
use Rattle.da_scope.proofs.SlotLaws.{scope_step, tables_step, fresh_step, untyped-texts}
use Rattle.da_scope.proofs.slots.declare_names.Goals as goal

abbrev text : Bor (List ℕ) → List ℕ
text name = name.now

abbrev no_type : Bor (List ℕ) → Option Ty
no_type name = None

-- what a place of a list without an element would give
abbrev nothing : Bor (List ℕ)
nothing = record { ref_ptr = (0, 0); now = [] }

pub loop-name-preserved : goal.loop-name-preserved
loop-name-preserved c =
    let s = c.loop-name.invariant in
    let here = c.in_ok-declare.ensures in
    let i = c.loop-name.name-index in
    let names = c.args.names.now in
    let name = get_or names i nothing in
    let there : name ≡ get_or names i name = get_or_default names i nothing name c.loop-name-test.true in
    let before = s.tables ∙ untyped-texts (take i names) c.args.tables.now in
    record {
      slots = fresh_step text no_type names _ c.args.tables.now c.loop-name.tables _ _ _ c.loop-name-test.true before s.slots here.slot c.in_ok-push.ensures.ok;
      scope = scope_step text no_type names _ name _ c.args.tables.now c.loop-name.tables c.args.scope.now c.loop-name.scope _ c.loop-name-test.true there s.scope before refl here.scope;
      tables = tables_step text no_type names _ name _ c.args.tables.now c.loop-name.tables _ c.loop-name-test.true there before refl here.tables ∙ sym (untyped-texts (take (i + 1) names) c.args.tables.now);
    }
