use Rattle.std.proofs.Common.{◌≡◌, take, find, filter_map, None}
use Rattle.da_lang.specs.ClassParts.{body_in}
use Rattle.da_scope.specs.HomeView.{wants}
use Rattle.da_scope.proofs.bodies.first_body.Given as goal

abbrev pub invariant-loop-member : goal.invariant-loop-member
invariant-loop-member l = find (λ b. wants l.wanted b.place) (filter_map body_in (take l.member-index l.member-items)) ≡ None
