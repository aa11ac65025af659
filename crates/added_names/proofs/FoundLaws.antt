-- What a program and its classes get, by what was found in them.
use Rattle.std.specs.Prelude.{◌≡◌, ℕ, List, [], ◌++◌, map, flat_map}
use Rattle.std.proofs.Common.{◌∙◌, ap}
use Rattle.da_lang.specs.declared.tree.ClassTree.{ClassTree}
use Rattle.da_lang.specs.declared.tree.Member.{Member}
use Rattle.da_lang.specs.declared.tree.MessageDecl.{MessageDecl}
use Rattle.da_lang.specs.declared.tree.Tree.{Tree}
use Rattle.added_names.specs.declared.added.AddedTag.{AddedTag}
use Rattle.added_names.specs.declared.added.AddedVariable.{AddedVariable}
use Rattle.added_names.specs.Changes.{Changes, added_variables, declares, member_changes}
use Rattle.added_names.specs.Firsts.{firsts}
use Rattle.added_names.specs.StmtTags.{added_tags, tree_tags}
use Rattle.added_names.specs.Tags.{Tags}

abbrev tag_of : AddedTag → List ℕ
tag_of x = x.tag

abbrev written_tag : MessageDecl → List ℕ
written_tag m = m.tag

abbrev name_of : AddedVariable → List ℕ
name_of v = v.name

abbrev pub first_tags : List MessageDecl → Tags → Tags
first_tags messages found = firsts tag_of (map written_tag messages) found

abbrev pub first_variables : List Member → Changes → Changes
first_variables members found = firsts name_of (flat_map declares members) found

pub added_by : (t : Tree) (messages : List MessageDecl) (none out found kept : Tags) → messages ≡ t.messages → none ≡ [] → out ≡ none ++ tree_tags t → found ≡ out → kept ≡ first_tags messages found → kept ≡ added_tags t
unfolding added_tags
added_by t messages none out found kept same empty put given made =
    made ∙ ap (λ ms. first_tags ms found) same ∙ ap (first_tags t.messages) (given ∙ put ∙ ap (λ ts. ts ++ tree_tags t) empty)

pub variables_by : (c : ClassTree) (members written : List Member) (none out found kept : Changes) → members ≡ c.members → written ≡ c.members → none ≡ [] → out ≡ none ++ flat_map member_changes members → found ≡ out
    → kept ≡ first_variables written found → kept ≡ added_variables c
unfolding added_variables
variables_by c members written none out found kept same alike empty put given made =
    made ∙ ap (λ ms. first_variables ms found) alike
    ∙ ap (first_variables c.members) (given ∙ put ∙ ap (λ vs. vs ++ flat_map member_changes members) empty ∙ ap (flat_map member_changes) same)
