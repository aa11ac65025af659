use Rattle.std.proofs.Common.{refl}
use Rattle.da_names.specs.DeedView.{deed_of, deeds_in}
use Rattle.da_bodies.proofs.ListSteps.{appended}
use Rattle.da_names.proofs.deeds.put_deed.Goals as goal

pub returns : goal.returns
unfolding deeds_in
returns c = appended deed_of c.push.result c.args.out.now c.push.new.self _ _ c.push.ensures.ok refl
