-- The handlers among members, and the slots of the parameters of `setup`.
use Rattle.std.specs.Prelude.{ℕ, List, filter, filter_map, length}
use Rattle.da_lang.specs.declared.tree.ClassTree.{ClassTree}
use Rattle.da_lang.specs.declared.tree.Member.{Member}
use Rattle.da_lang.specs.BodyMeaning.{fresh}
use Rattle.da_lang.specs.ClassParts.{Body, body_in, is_handler, params_if, setup_of}
use Rattle.da_lang.specs.Resolution.{class_tables}

abbrev pub handlers_in : List Member → List Body
handlers_in members = filter (λ b. is_handler b.place) (filter_map body_in members)

abbrev pub setup_params : ClassTree → List ℕ
setup_params c = fresh (class_tables c) (length (params_if (setup_of c)))
