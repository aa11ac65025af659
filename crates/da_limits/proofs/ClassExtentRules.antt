-- The extents of classes and handlers, from those of their parts.
use Rattle.std.specs.Prelude.{◌≡◌, ℕ, ◌+◌, List, [], ◌++◌, length, map, count_by, Option}
use Rattle.std.specs.List.{fold}
use Rattle.std.proofs.Common.{◌∙◌, ap, sym, arith, length-append}
use Rattle.da_lang.specs.declared.tree.ClassTree.{ClassTree}
use Rattle.da_lang.specs.declared.tree.PatternTree.{PatternTree}
use Rattle.da_lang.specs.declared.tree.Stmt.{Stmt}
use Rattle.da_lang.specs.ClassParts.{InHandler, bodies_where, is_handler, setup_of, stmts_if}
use Rattle.da_lang.specs.ExprMeaning.{matching}
use Rattle.da_lang.specs.Resolution.{from_matching}
use Rattle.da_limits.specs.Bound.{bound, bound_by_from}
use Rattle.da_limits.specs.Capped.{capped}
use Rattle.da_limits.specs.ClassMembers.{setup_in, run_in, is_variable, with_handlers}
use Rattle.da_limits.specs.declared.extent.Extent.{Extent}
use Rattle.da_limits.specs.Extents.{Called, beside, wider, as_block, extent, body_extent_if, run_extent, handler_extent, class_extent_by}
use Rattle.da_limits.proofs.BoundRules.{bound-matching}
use Rattle.da_limits.proofs.ClassMembersAt.{variables-counted}
use Rattle.da_limits.proofs.ExtentRules.{wider-capped}

pub class-of : (called : Called) (c : ClassTree)
    → class_extent_by called c ≡ wider (capped (count_by is_variable c.members)) (with_handlers called (beside (body_extent_if called (setup_in c.members)) (as_block (map (extent called) (stmts_if (run_in c.members))))) c.members)
unfolding setup_in run_in with_handlers
class-of called c =
    let entry = beside (body_extent_if called (setup_of c)) (run_extent called c) in
    let all = fold beside entry (map (handler_extent called) (bodies_where is_handler c)) in
    ap (λ n. wider n all) (sym (variables-counted c.members)) ∙ sym (wider-capped (count_by is_variable c.members) all)

pub ruleset class_rules = (class-of)

-- the variables of two patterns
both_bound : (message : PatternTree) (from : Option PatternTree) → capped (bound message + bound_by_from from) ≡ capped (length ((matching message).binds ++ (from_matching from).binds))
unfolding bound_by_from
both_bound message from = omega (arith, sym (bound-matching message), length-append (matching message).binds (from_matching from).binds)

pub handler-of : (called : Called) (message : PatternTree) (from : Option PatternTree) (labels : List (List ℕ)) (stmts : List Stmt) (line : ℕ)
    → handler_extent called (record { place = InHandler message from labels; params = []; stmts = stmts; line = line }) ≡ wider (capped (bound message + bound_by_from from)) (as_block (map (extent called) stmts))
handler-of called message from labels stmts line =
    sym (wider-capped (length ((matching message).binds ++ (from_matching from).binds)) (as_block (map (extent called) stmts))) ∙ ap (λ n. wider n (as_block (map (extent called) stmts))) (sym (both_bound message from))

pub handler_made : (called : Called) (message : PatternTree) (from : Option PatternTree) (labels : List (List ℕ)) (stmts : List Stmt) (line first second count : ℕ) (inner whole : Extent)
    → first ≡ bound message → second ≡ bound_by_from from → count ≡ capped (first + second) → inner ≡ as_block (map (extent called) stmts) → whole ≡ wider count inner
    → whole ≡ handler_extent called (record { place = InHandler message from labels; params = []; stmts = stmts; line = line })
handler_made called message from labels stmts line first second count inner whole one two both body is =
    let counted : count ≡ capped (bound message + bound_by_from from) = omega (arith, one, two, both) in
    is ∙ ap (λ x. wider count x) body ∙ ap (λ n. wider n (as_block (map (extent called) stmts))) counted ∙ sym (handler-of called message from labels stmts line)
