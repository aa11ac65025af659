-- The names of variables, class by class and member by member.
use Rattle.std.proofs.Common.{◌≡◌, refl, sym, ◌∙◌, ap, ℕ, ◌+◌, ◌<◌, List, [], ◌∷◌, ◌++◌, get_or, length, map, take}
use Rattle.std.proofs.lemmas.List.{map-append, take_more}
use Rattle.std.proofs.lemmas.List.Elements.{filter_map-append}
use Rattle.std.proofs.lemmas.Option.{slice_get-map}
use Rattle.std.specs.List.{slice_get}
use Rattle.std.specs.Prelude.{None, Option, Some, filter_map, option_map, unwrap_or}
use Rattle.da_lang.specs.declared.program.ProcDecl.{ProcDecl}
use Rattle.da_lang.specs.declared.tree.ClassTree.{ClassTree}
use Rattle.da_lang.specs.declared.tree.Member.{Member}
use Rattle.da_lang.specs.declared.tree.Tree.{Tree}
use Rattle.da_lang.specs.ClassParts.{Variable, variable_in}
use Rattle.run_page.specs.RunRows.{names_for, names_in}

-- of the class at a place, if it is there
abbrev of_class : Option ClassTree → List (List ℕ)
of_class None = []
of_class (Some c) = names_in c

names_at_class : (found : Option ClassTree) → unwrap_or (option_map names_in found) [] ≡ of_class found
names_at_class None = refl
names_at_class (Some c) = refl

names_are : (tree : Tree) (d : ProcDecl) (found : Option ClassTree) → slice_get tree.classes d.class ≡ found → names_for tree d ≡ of_class found
names_are tree d found is = ap (λ o. unwrap_or o []) (slice_get-map names_in tree.classes d.class ∙ ap (option_map names_in) is) ∙ names_at_class found

pub named_of_class : (tree : Tree) (d : ProcDecl) (c : ClassTree) (names : List (List ℕ)) → slice_get tree.classes d.class ≡ Some c → names ≡ names_in c → names ≡ names_for tree d
named_of_class tree d c names there is = is ∙ sym (names_are tree d (Some c) there)

pub named_of_none : (tree : Tree) (d : ProcDecl) (names : List (List ℕ)) → slice_get tree.classes d.class ≡ None → names ≡ [] → names ≡ names_for tree d
named_of_none tree d names there is = is ∙ sym (names_are tree d None there)

-- one process more
pub name_on : (tree : Tree) (procs : List ProcDecl) (place : ℕ) (d : ProcDecl) (old new : List (List (List ℕ))) (more : List (List ℕ)) → place < length procs → old ≡ map (names_for tree) (take place procs)
    → more ≡ names_for tree (get_or procs place d) → new ≡ old ++ more ∷ [] → new ≡ map (names_for tree) (take (place + 1) procs)
name_on tree procs place d old new more inside so_far is adds =
    adds ∙ ap (λ x. x ++ more ∷ []) so_far ∙ ap (λ x. map (names_for tree) (take place procs) ++ x ∷ []) is
    ∙ sym (map-append (names_for tree) (take place procs) (get_or procs place d ∷ [])) ∙ ap (map (names_for tree)) (sym (take_more procs place d inside))

-- one member more
pub member_on : (members : List Member) (place : ℕ) (m : Member) (old new : List (List ℕ)) → place < length members → old ≡ map (λ (v : Variable). v.name) (filter_map variable_in (take place members))
    → new ≡ old ++ map (λ (v : Variable). v.name) (filter_map variable_in (get_or members place m ∷ [])) → new ≡ map (λ (v : Variable). v.name) (filter_map variable_in (take (place + 1) members))
member_on members place m old new inside so_far adds =
    adds ∙ ap (λ x. x ++ map (λ (v : Variable). v.name) (filter_map variable_in (get_or members place m ∷ []))) so_far
    ∙ sym (map-append (λ (v : Variable). v.name) (filter_map variable_in (take place members)) (filter_map variable_in (get_or members place m ∷ [])))
    ∙ ap (map (λ (v : Variable). v.name)) (sym (filter_map-append variable_in (take place members) (get_or members place m ∷ [])) ∙ ap (filter_map variable_in) (sym (take_more members place m inside)))
