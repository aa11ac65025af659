use Rattle.std.proofs.Common.{◌≡◌, ◌∙◌, sym, ap, [], ◌∷◌, ◌++◌, List}
use Rattle.std.specs.List.{flat_map}
use Rattle.std.specs.Option.{option_to_list}
use Rattle.std.proofs.lemmas.List.{append-nil}
use Rattle.da_lang.specs.declared.tree.Branch.{out-Branch}
use Rattle.da_lang.specs.Deeds.{Deed, deed, deeds, deeds_of_branch, deeds_of_timeout, Other, TimesOut}
use Rattle.da_names.specs.DeedView.{deeds_in}
use Rattle.da_names.proofs.DeedRules.{branch_deeds_of, timeout_deeds_of}
use Rattle.da_bodies.proofs.ListSteps.{appended_both}
use Rattle.da_names.proofs.deeds.+deeds.Goals as goal

pub put_branch-returns : goal.put_branch-returns
put_branch-returns t c =
    let b = c.args.branch.now in
    let v = out-Branch b in
    let header : c.get.result.now ≡ v.cond = c.get.ensures in
    appended_both c.put_body.result (deeds_in c.args.out.now) (deeds_in c.put_deed.new.out) (deeds_in c.put_body.new.out) (deed v.line Other (v.cond ∷ []) ∷ []) (deeds c.as_slice.result.now) (deeds_of_branch b)
    (c.in_ok-put_deed.ensures ∙ ap (λ x. deeds_in c.args.out.now ++ deed v.line Other (x ∷ []) ∷ []) header)
    c.put_body.ensures
    (branch_deeds_of b ∙ ap (λ body. (deed v.line Other (v.cond ∷ []) ∷ []) ++ deeds body) (sym c.as_slice.ensures))

pub put_timeout-returns-in_ok-put_deed-in-Some : goal.put_timeout-returns-in_ok-put_deed-in-Some
put_timeout-returns-in_ok-put_deed-in-Some t c =
    let late = c.args.timeout.now in
    let first : List Deed = deed c.in-Some.tree.line TimesOut [] ∷ [] in
    appended_both c.put_body.result (deeds_in c.args.out.now) (deeds_in c.put_deed.new.out) (deeds_in c.put_body.new.out) first (deeds c.as_slice.result.now) (flat_map deeds_of_timeout (option_to_list late))
    c.in_ok-put_deed-in-Some.ensures
    c.put_body.ensures
    (ap (λ o. flat_map deeds_of_timeout (option_to_list o)) c.in-Some.is ∙ append-nil (deeds_of_timeout _) ∙ timeout_deeds_of _ ∙ ap (λ body. first ++ deeds body) (sym c.as_slice.ensures))
