-- A function that has taken each type of a program to another one has done so where the program gets its types.
use Rattle.std.specs.Prelude.{◌≡◌, refl, ℕ, zero, suc, ◌+◌, Bool, true, false, if◌then◌else◌, List, [], ◌∷◌, ◌++◌, map, flat_map, drop, take}
use Rattle.std.proofs.Common.{◌∙◌, ap, ap₂, sym}
use Rattle.da_lang.specs.declared.tree.ClassTree.{ClassTree}
use Rattle.da_lang.specs.declared.tree.Member.{Member}
use Rattle.da_lang.specs.declared.tree.Member.TheVariants as member
use Rattle.da_lang.specs.declared.tree.MessageDecl.{MessageDecl}
use Rattle.da_lang.specs.declared.tree.Param.{Param}
use Rattle.da_lang.specs.declared.tree.Tree.{Tree}
use Rattle.da_lang.specs.declared.ty.Ty.{Ty}
use Rattle.da_lang.specs.declared.ty.Ty.TheVariants as t
use Rattle.added_names.specs.Changes.{Changes, declares, member_changes, added_variables}
use Rattle.added_names.specs.Filled.{Left, Loose, next_type, filled_from, left_from, is_next, type_filled, after_param, param_filled, param_left, params_filled, params_left, member_filled, member_left, variable_lines, types_after_variables, after_variables, class_filled, class_left, message_lines, types_after_tags, after_tags, filled}
use Rattle.added_names.specs.Firsts.{firsts}
use Rattle.added_names.specs.StmtTags.{member_tags, class_tags, main_tags, tree_tags, added_tags}
use Rattle.added_names.specs.Tags.{Tags}
use Rattle.untyped_laws.specs.Retyped.{put_param, put_member, put_class, put_message, put_tree}

map_append : {A B : Type 0} (f : A → B) (xs ys : List A) → map f (xs ++ ys) ≡ map f xs ++ map f ys
map_append f [] ys = refl
map_append f (x ∷ xs) ys = ap (λ zs. f x ∷ zs) (map_append f xs ys)

-- what is made of each thing is what is made of what it is taken to
pub flat_same : {A B C : Type 0} (put : A → B) (g : A → List C) (h : B → List C) → ((x : A) → h (put x) ≡ g x) → (xs : List A) → flat_map h (map put xs) ≡ flat_map g xs
flat_same put g h same [] = refl
flat_same put g h same (x ∷ xs) = ap₂ (λ z zs. z ++ zs) (same x) (flat_same put g h same xs)

map_same : {A B C : Type 0} (put : A → B) (g : A → C) (h : B → C) → ((x : A) → h (put x) ≡ g x) → (xs : List A) → map h (map put xs) ≡ map g xs
map_same put g h same [] = refl
map_same put g h same (x ∷ xs) = ap₂ (λ z zs. z ∷ zs) (same x) (map_same put g h same xs)

-- names and tags are those of the statements
module _ (f : Ty → Ty) where
  declares_same : (x : Member) → declares (put_member f x) ≡ declares x
  unfolding declares
  declares_same (member.Var name ty line) = refl
  declares_same (member.Setup params body line) = refl
  declares_same (member.Run body line) = refl
  declares_same (member.Method name params body line) = refl
  declares_same (member.Receive message from labels body line) = refl

  changes_same : (x : Member) → member_changes (put_member f x) ≡ member_changes x
  unfolding member_changes
  changes_same (member.Var name ty line) = refl
  changes_same (member.Setup params body line) = refl
  changes_same (member.Run body line) = refl
  changes_same (member.Method name params body line) = refl
  changes_same (member.Receive message from labels body line) = refl

  tags_same : (x : Member) → member_tags (put_member f x) ≡ member_tags x
  unfolding member_tags
  tags_same (member.Var name ty line) = refl
  tags_same (member.Setup params body line) = refl
  tags_same (member.Run body line) = refl
  tags_same (member.Method name params body line) = refl
  tags_same (member.Receive message from labels body line) = refl

  pub variables_same : (c : ClassTree) → added_variables (put_class f c) ≡ added_variables c
  unfolding added_variables
  variables_same c = ap₂ (λ known vs. firsts (λ v. v.name) known vs) (flat_same (put_member f) declares declares declares_same c.members) (flat_same (put_member f) member_changes member_changes changes_same c.members)

  class_same : (c : ClassTree) → class_tags (put_class f c) ≡ class_tags c
  unfolding class_tags
  class_same c = flat_same (put_member f) member_tags member_tags tags_same c.members

  all_same : (u : Tree) → tree_tags (put_tree f u) ≡ tree_tags u
  unfolding tree_tags
  all_same u = ap (λ z. z ++ flat_map main_tags u.main) (flat_same (put_class f) class_tags class_tags class_same u.classes)

  pub added_same : (u : Tree) → added_tags (put_tree f u) ≡ added_tags u
  unfolding added_tags
  added_same u = ap₂ (λ known tags. firsts (λ x. x.tag) known tags) (map_same (put_message f) (λ (x : MessageDecl). x.tag) (λ (x : MessageDecl). x.tag) (λ x. refl) u.messages) (all_same u)

module _ (f : Ty → Ty) (int : f t.Int ≡ t.Int) where
  abbrev after : Left → Left
  after left = record { places = left.places; types = map f left.types }

  drop_after : (count : ℕ) (types : List Ty) → drop count (map f types) ≡ map f (drop count types)
  drop_after zero types = refl
  drop_after (suc count) [] = refl
  drop_after (suc count) (ty ∷ types) = drop_after count types

  take_after : (count : ℕ) (types : List Ty) → take count (map f types) ≡ map f (take count types)
  take_after zero types = refl
  take_after (suc count) [] = refl
  take_after (suc count) (ty ∷ types) = ap (λ zs. f ty ∷ zs) (take_after count types)

  next_after : (types : List Ty) → next_type (map f types) ≡ f (next_type types)
  unfolding next_type
  next_after [] = sym int
  next_after (ty ∷ types) = refl

  -- things in turn
  module _ {A : Type 0} (fill : ℕ → A → Left → A) (leaves : ℕ → A → Left → Left) (put : A → A) where
    pub record Goes : Type 0 where
      pub made : (at : ℕ) (x : A) (left : Left) → put (fill at x left) ≡ fill at (put x) (after left)
      pub left : (at : ℕ) (x : A) (left : Left) → after (leaves at x left) ≡ leaves at (put x) (after left)

    filled_after : Goes → (at : ℕ) (xs : List A) (left : Left) → map put (filled_from fill leaves at xs left) ≡ filled_from fill leaves at (map put xs) (after left)
    unfolding filled_from
    filled_after each at [] left = refl
    filled_after each at (x ∷ xs) left =
        ap₂ (λ z zs. z ∷ zs) (each.made at x left) (filled_after each (at + 1) xs (leaves at x left) ∙ ap (filled_from fill leaves (at + 1) (map put xs)) (each.left at x left))

    left_after : Goes → (at : ℕ) (xs : List A) (left : Left) → after (left_from leaves at xs left) ≡ left_from leaves at (map put xs) (after left)
    unfolding left_from
    left_after each at [] left = refl
    left_after each at (x ∷ xs) left = left_after each (at + 1) xs (leaves at x left) ∙ ap (left_from leaves (at + 1) (map put xs)) (each.left at x left)

  -- parameters
  type_after : (untyped : Bool) (ty : Ty) (left : Left) → f (type_filled untyped ty left) ≡ type_filled untyped (f ty) (after left)
  unfolding type_filled
  type_after true ty left = sym (next_after left.types)
  type_after false ty left = refl

  param_after : (untyped : Bool) (left : Left) → after (after_param untyped left) ≡ after_param untyped (after left)
  unfolding after_param
  param_after true left = ap (λ (types : List Ty). record { places = drop 1 left.places; types = types }) (sym (drop_after 1 left.types))
  param_after false left = refl

  params_go : (class in_member : ℕ) → Goes (param_filled class in_member) (param_left class in_member) (put_param f)
  unfolding param_filled param_left
  params_go class in_member = record {
    made = λ at p left. ap (λ (ty : Ty). record { name = p.name; ty = ty }) (type_after (is_next class in_member at left.places) p.ty left);
    left = λ at p left. param_after (is_next class in_member at left.places) left;
  }

  params_after : (class at : ℕ) (ps : List Param) (left : Left) → map (put_param f) (params_filled class at ps left) ≡ params_filled class at (map (put_param f) ps) (after left)
  params_after class at = filled_after (param_filled class at) (param_left class at) (put_param f) (params_go class at) 0

  rest_after : (class at : ℕ) (ps : List Param) (left : Left) → after (params_left class at ps left) ≡ params_left class at (map (put_param f) ps) (after left)
  rest_after class at = left_after (param_filled class at) (param_left class at) (put_param f) (params_go class at) 0

  -- members
  member_made : (class at : ℕ) (x : Member) (left : Left) → put_member f (member_filled class at x left) ≡ member_filled class at (put_member f x) (after left)
  unfolding member_filled
  member_made class at (member.Var name ty line) left = refl
  member_made class at (member.Setup params body line) left = ap (λ (ps : List Param). member.Setup ps body line) (params_after class at params left)
  member_made class at (member.Run body line) left = refl
  member_made class at (member.Method name params body line) left = ap (λ (ps : List Param). member.Method name ps body line) (params_after class at params left)
  member_made class at (member.Receive message from labels body line) left = refl

  member_leaves : (class at : ℕ) (x : Member) (left : Left) → after (member_left class at x left) ≡ member_left class at (put_member f x) (after left)
  unfolding member_left
  member_leaves class at (member.Var name ty line) left = refl
  member_leaves class at (member.Setup params body line) left = rest_after class at params left
  member_leaves class at (member.Run body line) left = refl
  member_leaves class at (member.Method name params body line) left = rest_after class at params left
  member_leaves class at (member.Receive message from labels body line) left = refl

  members_go : (class : ℕ) → Goes (member_filled class) (member_left class) (put_member f)
  members_go class = record { made = member_made class; left = member_leaves class }

  -- added lines
  lines_after : (vs : Changes) (types : List Ty) → map (put_member f) (variable_lines vs types) ≡ variable_lines vs (map f types)
  unfolding variable_lines
  lines_after [] types = refl
  lines_after (v ∷ vs) types =
      ap₂ (λ (ty : Ty) (zs : List Member). member.Var v.name ty v.line ∷ zs) (sym (next_after types)) (lines_after vs (drop 1 types) ∙ ap (variable_lines vs) (sym (drop_after 1 types)))

  types_after : (vs : Changes) (types : List Ty) → map f (types_after_variables vs types) ≡ types_after_variables vs (map f types)
  unfolding types_after_variables
  types_after [] types = refl
  types_after (v ∷ vs) types = types_after vs (drop 1 types) ∙ ap (types_after_variables vs) (sym (drop_after 1 types))

  variables_after : (vs : Changes) (left : Left) → after (after_variables vs left) ≡ after_variables vs (after left)
  variables_after vs left = ap (λ (types : List Ty). record { places = left.places; types = types }) (types_after vs left.types)

  messages_after : (xs : Tags) (types : List Ty) → map (put_message f) (message_lines xs types) ≡ message_lines xs (map f types)
  unfolding message_lines
  messages_after [] types = refl
  messages_after (x ∷ xs) types =
      ap₂ (λ (parts : List Ty) (zs : List MessageDecl). record { tag = x.tag; parts = parts; line = x.line } ∷ zs) (sym (take_after x.parts types)) (messages_after xs (drop x.parts types) ∙ ap (message_lines xs) (sym (drop_after x.parts types)))

  tags_after : (xs : Tags) (types : List Ty) → map f (types_after_tags xs types) ≡ types_after_tags xs (map f types)
  unfolding types_after_tags
  tags_after [] types = refl
  tags_after (x ∷ xs) types = tags_after xs (drop x.parts types) ∙ ap (types_after_tags xs) (sym (drop_after x.parts types))

  -- classes
  abbrev class_by : ℕ → List ℕ → ℕ → Changes → List Member → Left → ClassTree
  class_by at name line vs members left = record { name = name; members = variable_lines vs left.types ++ filled_from (member_filled at) (member_left at) 0 members (after_variables vs left); line = line }

  class_made : (at : ℕ) (c : ClassTree) (left : Left) → put_class f (class_filled at c left) ≡ class_filled at (put_class f c) (after left)
  unfolding class_filled
  class_made at c left =
      ap (λ (members : List Member). record { name = c.name; members = members; line = c.line })
      (map_append (put_member f) (variable_lines (added_variables c) left.types) (filled_from (member_filled at) (member_left at) 0 c.members (after_variables (added_variables c) left))
      ∙ ap₂ (λ xs ys. xs ++ ys) (lines_after (added_variables c) left.types)
      (filled_after (member_filled at) (member_left at) (put_member f) (members_go at) 0 c.members (after_variables (added_variables c) left)
      ∙ ap (filled_from (member_filled at) (member_left at) 0 (map (put_member f) c.members)) (variables_after (added_variables c) left)))
      ∙ ap (λ vs. class_by at c.name c.line vs (map (put_member f) c.members) (after left)) (sym (variables_same f c))

  class_leaves : (at : ℕ) (c : ClassTree) (left : Left) → after (class_left at c left) ≡ class_left at (put_class f c) (after left)
  unfolding class_left
  class_leaves at c left =
      left_after (member_filled at) (member_left at) (put_member f) (members_go at) 0 c.members (after_variables (added_variables c) left)
      ∙ ap (left_from (member_left at) 0 (map (put_member f) c.members)) (variables_after (added_variables c) left)
      ∙ ap (λ vs. left_from (member_left at) 0 (map (put_member f) c.members) (after_variables vs (after left))) (sym (variables_same f c))

  classes_go : Goes class_filled class_left (put_class f)
  classes_go = record { made = class_made; left = class_leaves }

  -- the whole
  abbrev pub put_loose : Loose → Loose
  put_loose l = record { tree = put_tree f l.tree; untyped = l.untyped }

  abbrev tree_by : Loose → List Ty → Tags → Tree
  tree_by l types tags = record {
    kind = l.tree.kind;
    messages = l.tree.messages ++ message_lines tags types;
    classes = filled_from class_filled class_left 0 l.tree.classes (after_tags tags (record { places = l.untyped; types = types }));
    main = l.tree.main;
  }

  pub tree_after : (l : Loose) (types : List Ty) → put_tree f (filled l types) ≡ filled (put_loose l) (map f types)
  unfolding filled
  tree_after l types =
      let tags = added_tags l.tree in
      let start : Left = record { places = l.untyped; types = types } in
      ap₂ (λ (messages : List MessageDecl) (classes : List ClassTree). record { kind = l.tree.kind; messages = messages; classes = classes; main = l.tree.main })
      (map_append (put_message f) l.tree.messages (message_lines tags types) ∙ ap (λ xs. map (put_message f) l.tree.messages ++ xs) (messages_after tags types))
      (filled_after class_filled class_left (put_class f) classes_go 0 l.tree.classes (after_tags tags start)
      ∙ ap (λ (types : List Ty). filled_from class_filled class_left 0 (map (put_class f) l.tree.classes) (record { places = l.untyped; types = types })) (tags_after tags types))
      ∙ ap (tree_by (put_loose l) (map f types)) (sym (added_same f l.tree))
