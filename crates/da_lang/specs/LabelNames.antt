-- The labels of a class by their names, in text order.
use Rattle.std.specs.Prelude.{ℕ, suc, List, Option, Some, None, flat_map, filter_map, map, position, unwrap_or, bytes_eq}
use Rattle.da_lang.specs.declared.tree.ClassTree.{ClassTree}
use Rattle.da_lang.specs.ClassParts.{Declared, bodies}
use Rattle.da_lang.specs.Deeds.{Doing, Labels, Deed, deeds}

abbrev pub all_deeds : ClassTree → List Deed
all_deeds c = flat_map (λ b. deeds b.stmts) (bodies c)

abbrev pub labelled : ℕ → Doing → Option Declared
labelled line (Labels name) = Some (name, line)
labelled line _ = None

-- the labels, each with its line; those of methods that nothing calls too
abbrev pub labels_of : ClassTree → List Declared
labels_of c = filter_map (λ d. labelled d.line d.does) (all_deeds c)

-- the number of a label, from 1
abbrev pub label_number : ClassTree → List ℕ → ℕ
label_number c name = suc (unwrap_or (position (λ l. bytes_eq l.0 name) (labels_of c)) 0)
