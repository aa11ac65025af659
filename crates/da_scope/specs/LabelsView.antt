-- The labels of a class that code keeps: their names in text order, and a map from names to numbers.
use Rattle.std.specs.Prelude.{◌≡◌, ℕ, suc, List, map, Option, option_map, flat_map, filter_map, position, bytes_eq}
use Rattle.std.specs.BTreeMap.{BTreeMap, get_by}
use Rattle.std.specs.Borrow.{Bor}
use Rattle.std.specs.Cmp.Lexicographic.{slice_cmp}
use Rattle.std.specs.Ordering.{nat_cmp}
use Rattle.da_lang.specs.declared.tree.Branch.{Branch}
use Rattle.da_lang.specs.declared.tree.ClassTree.{ClassTree}
use Rattle.da_lang.specs.declared.tree.Member.{Member}
use Rattle.da_lang.specs.declared.tree.Stmt.{Stmt}
use Rattle.da_lang.specs.ClassParts.{body_in, stmts_if}
use Rattle.da_lang.specs.Deeds.{Deed, deeds_of, deeds_of_branch}
use Rattle.da_lang.specs.LabelNames.{labelled, labels_of}

-- the names of the labels among statements
abbrev pub label_names : List Deed → List (List ℕ)
label_names ds = map (λ l. l.0) (filter_map (λ d. labelled d.line d.does) ds)

unfoldable pub names_of : Stmt → List (List ℕ)
names_of s = label_names (deeds_of s)

unfoldable pub names_of_branch : Branch → List (List ℕ)
names_of_branch b = label_names (deeds_of_branch b)

unfoldable pub names_in : List Stmt → List (List ℕ)
names_in stmts = flat_map names_of stmts

unfoldable pub names_of_branches : List Branch → List (List ℕ)
names_of_branches branches = flat_map names_of_branch branches

-- those in the bodies of members
unfoldable pub names_of_member : Member → List (List ℕ)
names_of_member m = names_in (stmts_if (body_in m))

unfoldable pub names_within : List Member → List (List ℕ)
names_within members = flat_map names_of_member members

-- the number of the first label of a name, from 1
abbrev pub number_among : List (List ℕ) → List ℕ → Option ℕ
number_among names name = option_map suc (position (λ n. bytes_eq n name) names)

-- the number that a map has at a name
abbrev pub number_in : BTreeMap (Bor (List ℕ)) ℕ → List ℕ → Option ℕ
number_in numbers name = get_by (λ k. slice_cmp nat_cmp name k.now) numbers

-- the map has the number of the first label of each name of a class
abbrev pub HasNumbers : BTreeMap (Bor (List ℕ)) ℕ → ClassTree → Type 0
HasNumbers numbers c = (name : List ℕ) → number_in numbers name ≡ number_among (map (λ l. l.0) (labels_of c)) name
