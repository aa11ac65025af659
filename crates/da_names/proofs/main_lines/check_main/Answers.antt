use Rattle.std.proofs.Common.{◌∙◌, ap, sym, bytes_eq, find, option_map, option_to_list, take}
use Rattle.da_lang.specs.ExprNames.{Made}
use Rattle.da_lang.specs.NameRules.{made_name}
use Rattle.da_names.specs.MainView.{at_name, class_at, setup_arity}
use Rattle.da_bodies.specs.Told.{entered_each}
use Rattle.da_names.proofs.MainLaws.{first_more, made_look, made_more, main_more, told_line-by}
use Rattle.da_bodies.proofs.TellingLaws.{telling-nil}
use Rattle.da_names.proofs.main_lines.check_main.Goals as goal

pub loop-line-init : goal.loop-line-init
loop-line-init c = record {
  told = sym (telling-nil c.args.least.now);
  entered = c.new-names.ensures;
  first = c.nothing_made-classes.ensures;
}

pub loop-line-preserved : goal.loop-line-preserved
loop-line-preserved c =
    let l = c.loop-line in
    let t = c.args.tree.now in
    let lines = c.as_slice-line-items.result.now in
    let i = l.line-index in
    let x = c.line-item.result in
    record {
      told = main_more t c.args.least.now l.least c.check_line.new.least lines i x c.loop-line-test.true c.line-item.is l.invariant.told
          (c.in_ok-check_line.ensures.told
          ∙ told_line-by t (take i lines) (at_name c.in_ok-arities.arities) (class_at l.classes) l.names l.least x
          (λ q. c.in_ok-arities.ensures q ∙ ap (λ cs. option_map setup_arity (find (λ d. bytes_eq d.name q) cs)) c.as_slice.ensures)
          l.invariant.first (made_look (take i lines) l.names l.invariant.entered));
      entered = made_more l.names c.make_name.new.names lines i x c.loop-line-test.true c.line-item.is l.invariant.entered
          (c.in_ok-make_name.ensures.names ∙ ap (entered_each Made (option_to_list (made_name x))) c.in_ok-check_line.ensures.same);
      first = λ q. first_more _ _ q lines i x c.loop-line-test.true c.line-item.is (l.invariant.first q) (c.in_ok-make_name.ensures.classes q);
    }
