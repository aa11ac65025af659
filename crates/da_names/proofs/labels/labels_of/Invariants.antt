use Rattle.std.proofs.Common.{◌≡◌, filter_map, take}
use Rattle.da_lang.specs.LabelNames.{labelled}
use Rattle.da_names.specs.DeedView.{doing_of}
use Rattle.da_bodies.specs.Repeats.{declared_in}
use Rattle.da_names.proofs.labels.labels_of.Given as goal

abbrev pub invariant-loop-deed : goal.invariant-loop-deed
invariant-loop-deed l = declared_in l.list ≡ filter_map (λ d. labelled d.line (doing_of d.does)) (take l.deed-index l.deeds)
