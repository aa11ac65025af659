use Rattle.std.proofs.Common.{◌∙◌, ap, sym, ◌||◌, bytes_eq, ◌∷◌, []}
use Rattle.da_lang.specs.declared.tree.Member.{Member}
use Rattle.added_names.specs.Changes.{declares}
use Rattle.added_names.specs.Firsts.{is_seen, knows}
use Rattle.added_names.proofs.FirstLaws.{or_nil}
use Rattle.added_names.proofs.firsts.see_member.Goals as goal

pub returns-in-Setup : goal.returns-in-Setup
unfolding declares
returns-in-Setup c = λ q. ap (λ (m : Member). knows (declares m) q || is_seen c.args.seen.now q) (sym c.in-Setup.is)

pub returns-in-Run : goal.returns-in-Run
unfolding declares
returns-in-Run c = λ q. ap (λ (m : Member). knows (declares m) q || is_seen c.args.seen.now q) (sym c.in-Run.is)

pub returns-in-Method : goal.returns-in-Method
unfolding declares
returns-in-Method c = λ q. ap (λ (m : Member). knows (declares m) q || is_seen c.args.seen.now q) (sym c.in-Method.is)

pub returns-in-Receive : goal.returns-in-Receive
unfolding declares
returns-in-Receive c = λ q. ap (λ (m : Member). knows (declares m) q || is_seen c.args.seen.now q) (sym c.in-Receive.is)

pub returns-in_ok-see-in-Var : goal.returns-in_ok-see-in-Var
unfolding declares
returns-in_ok-see-in-Var c = λ q.
    c.in_ok-see-in-Var.ensures q
    ∙ ap (λ b. b || is_seen c.args.seen.now q) (sym (or_nil (bytes_eq c.as_slice.result.now q)) ∙ ap (λ n. knows (n ∷ []) q) c.as_slice.ensures)
    ∙ ap (λ (m : Member). knows (declares m) q || is_seen c.args.seen.now q) (sym c.in-Var.is)
