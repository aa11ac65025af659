use Rattle.std.proofs.Common.{◌≡◌, map, take}
use Rattle.std.specs.Prelude.{filter_map}
use Rattle.da_lang.specs.ClassParts.{variable_in}
use Rattle.run_page.proofs.names.variables_of.Given as goal

abbrev pub invariant-loop-member : goal.invariant-loop-member
invariant-loop-member l = l.names ≡ map (λ v. v.name) (filter_map variable_in (take l.member-index l.member-items))
