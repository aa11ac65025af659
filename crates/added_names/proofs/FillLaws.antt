-- Types that are handed out in turn.
use Rattle.std.specs.Prelude.{◌≡◌, refl, ℕ, ◌+◌, ◌<◌, ◌≤◌, List, [], ◌∷◌, ◌++◌, length, take, drop}
use Rattle.std.proofs.Common.{◌∙◌, sym, ap, get_or, append_assoc}
use Rattle.std.proofs.lemmas.List.{append-nil, drop_more, drop_all, take_all}
use Rattle.da_lang.specs.declared.tree.ClassTree.{ClassTree}
use Rattle.da_lang.specs.declared.tree.MainLine.{MainLine}
use Rattle.da_lang.specs.declared.tree.Member.{Member}
use Rattle.da_lang.specs.declared.tree.Member.TheVariants as member
use Rattle.da_lang.specs.declared.tree.MessageDecl.{MessageDecl}
use Rattle.da_lang.specs.declared.tree.Tree.{Tree}
use Rattle.da_lang.specs.declared.ty.ChannelKind.{ChannelKind}
use Rattle.da_lang.specs.declared.ty.Ty.{Ty}
use Rattle.added_names.specs.declared.added.AddedTag.{AddedTag}
use Rattle.added_names.specs.declared.added.AddedVariable.{AddedVariable}
use Rattle.added_names.specs.declared.added.OpenPlace.{OpenPlace}
use Rattle.added_names.specs.Changes.{Changes, added_variables}
use Rattle.added_names.specs.Filled.{Left, after_tags, after_variables, class_filled, class_left, filled, filled_from, left_from, member_filled, member_left, next_type, variable_lines, types_after_variables, message_lines, types_after_tags}
use Rattle.added_names.specs.StmtTags.{added_tags}
use Rattle.added_names.specs.Tags.{Tags}

-- all that are left were taken
pub taken : {A : Type 0} (n : ℕ) (xs : List A) → length xs ≤ n → take n xs ≡ xs
taken n xs all = take_all n xs all

pub ruleset taking = (taken, drop_all)

abbrev pub left_with : List OpenPlace → List Ty → Left
left_with places types = record { places = places; types = types }

-- how far a list was gone through, by what was appended so far and what is left
pub record Filling {A : Type 0} (fill : ℕ → A → Left → A) (leaves : ℕ → A → Left → Left) (xs : List A) (start : Left) (first : List A) (at : ℕ) (out : List A) (left : Left) : Type 0 where
  pub filled : out ++ filled_from fill leaves at (drop at xs) left ≡ first ++ filled_from fill leaves 0 xs start
  pub rest : left_from leaves at (drop at xs) left ≡ left_from leaves 0 xs start

module _ {A : Type 0} (fill : ℕ → A → Left → A) (leaves : ℕ → A → Left → Left) (xs : List A) (start : Left) (first : List A) where
  pub filling_begins : (out : List A) (left : Left) → out ≡ first → left ≡ start → Filling fill leaves xs start first 0 out left
  filling_begins out left none same = record {
    filled = ap (λ o. o ++ filled_from fill leaves 0 xs left) none ∙ ap (λ l. first ++ filled_from fill leaves 0 xs l) same;
    rest = ap (left_from leaves 0 xs) same;
  }

  pub filling_more : (at : ℕ) (x y : A) (out now : List A) (left after : Left) → at < length xs → x ≡ get_or xs at x
      → Filling fill leaves xs start first at out left → now ≡ out ++ y ∷ [] → y ≡ fill at x left → after ≡ leaves at x left → Filling fill leaves xs start first (at + 1) now after
  unfolding filled_from left_from
  filling_more at x y out now left after within here so_far step is goes =
      let next : drop at xs ≡ x ∷ drop (at + 1) xs = drop_more xs at x within ∙ ap (λ z. z ∷ drop (at + 1) xs) (sym here) in
      let others = filled_from fill leaves (at + 1) (drop (at + 1) xs) in
      record {
        filled =
            ap (λ o. o ++ others after) (step ∙ ap (λ z. out ++ z ∷ []) is)
            ∙ append_assoc out (fill at x left ∷ []) (others after)
            ∙ ap (λ l. out ++ (fill at x left ∷ others l)) goes
            ∙ ap (λ zs. out ++ filled_from fill leaves at zs left) (sym next)
            ∙ so_far.filled;
        rest = ap (left_from leaves (at + 1) (drop (at + 1) xs)) goes ∙ ap (λ zs. left_from leaves at zs left) (sym next) ∙ so_far.rest;
      }

  pub filling_ends : (at : ℕ) (out : List A) (left : Left) → length xs ≤ at → Filling fill leaves xs start first at out left → out ≡ first ++ filled_from fill leaves 0 xs start
  unfolding filled_from
  filling_ends at out left all so_far =
      sym (append-nil out) ∙ ap (λ zs. out ++ filled_from fill leaves at zs left) (sym (drop_all at xs all)) ∙ so_far.filled

  pub filling_leaves : (at : ℕ) (out : List A) (left : Left) → length xs ≤ at → Filling fill leaves xs start first at out left → left ≡ left_from leaves 0 xs start
  unfolding left_from
  filling_leaves at out left all so_far =
      ap (λ zs. left_from leaves at zs left) (sym (drop_all at xs all)) ∙ so_far.rest

pub left_by : (places : List OpenPlace) (ps : List OpenPlace) (types tys : List Ty) → ps ≡ places → tys ≡ types → left_with ps tys ≡ left_with places types
left_by places ps types tys same goes = ap (λ z. left_with z tys) same ∙ ap (left_with places) goes

-- lines that take types
pub record Lining {A B : Type 0} (lines : List A → List Ty → List B) (leaves : List A → List Ty → List Ty) (xs : List A) (start : List Ty) (first : List B) (at : ℕ) (out : List B) (types : List Ty) : Type 0 where
  pub lined : out ++ lines (drop at xs) types ≡ first ++ lines xs start
  pub rest : leaves (drop at xs) types ≡ leaves xs start

pub lining_begins : {A B : Type 0} (lines : List A → List Ty → List B) (leaves : List A → List Ty → List Ty) (xs : List A) (start : List Ty) (first : List B) → Lining lines leaves xs start first 0 first start
lining_begins lines leaves xs start first = record { lined = refl; rest = refl }

pub lining_more : {A B : Type 0} (lines : List A → List Ty → List B) (leaves : List A → List Ty → List Ty) (line : A → List Ty → B) (pass : A → List Ty → List Ty)
    → ((x : A) (types : List Ty) (zs : List A) → lines (x ∷ zs) types ≡ line x types ∷ lines zs (pass x types)) → ((x : A) (types : List Ty) (zs : List A) → leaves (x ∷ zs) types ≡ leaves zs (pass x types))
    → (xs : List A) (start : List Ty) (first : List B) (at : ℕ) (x : A) (y : B) (out now : List B) (types after : List Ty) → at < length xs → x ≡ get_or xs at x
    → Lining lines leaves xs start first at out types → now ≡ out ++ y ∷ [] → y ≡ line x types → after ≡ pass x types → Lining lines leaves xs start first (at + 1) now after
lining_more lines leaves line pass lined passed xs start first at x y out now types after within here so_far step is goes =
    let next : drop at xs ≡ x ∷ drop (at + 1) xs = drop_more xs at x within ∙ ap (λ z. z ∷ drop (at + 1) xs) (sym here) in
    let others = drop (at + 1) xs in
    record {
      lined =
          ap (λ o. o ++ lines others after) (step ∙ ap (λ z. out ++ z ∷ []) is)
          ∙ append_assoc out (line x types ∷ []) (lines others after)
          ∙ ap (λ tys. out ++ (line x types ∷ lines others tys)) goes
          ∙ ap (λ zs. out ++ zs) (sym (lined x types others))
          ∙ ap (λ zs. out ++ lines zs types) (sym next)
          ∙ so_far.lined;
      rest = ap (leaves others) goes ∙ sym (passed x types others) ∙ ap (λ zs. leaves zs types) (sym next) ∙ so_far.rest;
    }

pub lining_ends : {A B : Type 0} (lines : List A → List Ty → List B) (leaves : List A → List Ty → List Ty) (xs : List A) (start : List Ty) (first : List B) (at : ℕ) (out : List B) (types : List Ty)
    → length xs ≤ at → lines [] types ≡ [] → Lining lines leaves xs start first at out types → out ≡ first ++ lines xs start
lining_ends lines leaves xs start first at out types all none so_far =
    sym (append-nil out) ∙ ap (λ zs. out ++ zs) (sym none) ∙ ap (λ zs. out ++ lines zs types) (sym (drop_all at xs all)) ∙ so_far.lined

pub lining_leaves : {A B : Type 0} (lines : List A → List Ty → List B) (leaves : List A → List Ty → List Ty) (xs : List A) (start : List Ty) (first : List B) (at : ℕ) (out : List B) (types : List Ty)
    → length xs ≤ at → leaves [] types ≡ types → Lining lines leaves xs start first at out types → types ≡ leaves xs start
lining_leaves lines leaves xs start first at out types all none so_far =
    sym none ∙ ap (λ zs. leaves zs types) (sym (drop_all at xs all)) ∙ so_far.rest

pub variable_lines-nil : (types : List Ty) → variable_lines [] types ≡ []
unfolding variable_lines
variable_lines-nil types = refl

abbrev pub variable_line : AddedVariable → List Ty → Member
variable_line v types = member.Var v.name (next_type types) v.line

pub variable_line_by : (v : AddedVariable) (types : List Ty) (name : List ℕ) (ty : Ty) → name ≡ v.name → ty ≡ next_type types → member.Var name ty v.line ≡ variable_line v types
variable_line_by v types name ty own goes = ap (λ n. member.Var n ty v.line) own ∙ ap (λ t. member.Var v.name t v.line) goes

pub variable_lines-cons : (v : AddedVariable) (types : List Ty) (vs : List AddedVariable) → variable_lines (v ∷ vs) types ≡ member.Var v.name (next_type types) v.line ∷ variable_lines vs (drop 1 types)
unfolding variable_lines
variable_lines-cons v types vs = refl

pub after_variables-nil : (types : List Ty) → types_after_variables [] types ≡ types
unfolding types_after_variables
after_variables-nil types = refl

pub after_variables-cons : (v : AddedVariable) (types : List Ty) (vs : List AddedVariable) → types_after_variables (v ∷ vs) types ≡ types_after_variables vs (drop 1 types)
unfolding types_after_variables
after_variables-cons v types vs = refl

pub message_lines-nil : (types : List Ty) → message_lines [] types ≡ []
unfolding message_lines
message_lines-nil types = refl

abbrev pub message_of : List ℕ → List Ty → ℕ → MessageDecl
message_of tag parts line = record { tag = tag; parts = parts; line = line }

abbrev pub message_line : AddedTag → List Ty → MessageDecl
message_line x types = message_of x.tag (take x.parts types) x.line

pub message_line_by : (x : AddedTag) (types : List Ty) (tag : List ℕ) (parts : List Ty) → tag ≡ x.tag → parts ≡ take x.parts types → message_of tag parts x.line ≡ message_line x types
message_line_by x types tag parts own goes = ap (λ name. message_of name parts x.line) own ∙ ap (λ tys. message_of x.tag tys x.line) goes

pub message_lines-cons : (x : AddedTag) (types : List Ty) (xs : List AddedTag) → message_lines (x ∷ xs) types ≡ message_line x types ∷ message_lines xs (drop x.parts types)
unfolding message_lines
message_lines-cons x types xs = refl

pub after_tags-nil : (types : List Ty) → types_after_tags [] types ≡ types
unfolding types_after_tags
after_tags-nil types = refl

pub after_tags-cons : (x : AddedTag) (types : List Ty) (xs : List AddedTag) → types_after_tags (x ∷ xs) types ≡ types_after_tags xs (drop x.parts types)
unfolding types_after_tags
after_tags-cons x types xs = refl

abbrev pub class_of : List ℕ → List Member → ℕ → ClassTree
class_of name members line = record { name = name; members = members; line = line }

-- a class, by what its lines and its members became
pub class_by : (at : ℕ) (c : ClassTree) (start middle : Left) (name : List ℕ) (vs : Changes) (none first given members : List Member) → name ≡ c.name → vs ≡ added_variables c → none ≡ []
    → first ≡ none ++ variable_lines vs start.types → middle ≡ after_variables vs start → given ≡ c.members → members ≡ first ++ filled_from (member_filled at) (member_left at) 0 given middle
    → class_of name members c.line ≡ class_filled at c start
unfolding class_filled
class_by at c start middle name vs none first given members named own empty lined passed same made =
    let others : List Member → Left → List Member = filled_from (member_filled at) (member_left at) 0 in
    ap (λ n. class_of n members c.line) named
    ∙ ap (λ ms. class_of c.name ms c.line)
    (made
    ∙ ap (λ ls. ls ++ others given middle) (lined ∙ ap (λ ls. ls ++ variable_lines vs start.types) empty ∙ ap (λ v. variable_lines v start.types) own)
    ∙ ap (λ ms. variable_lines (added_variables c) start.types ++ others ms middle) same
    ∙ ap (λ l. variable_lines (added_variables c) start.types ++ others c.members l) (passed ∙ ap (λ v. after_variables v start) own))

pub class_left_by : (at : ℕ) (c : ClassTree) (start middle last : Left) (vs : Changes) (given : List Member) → vs ≡ added_variables c → middle ≡ after_variables vs start → given ≡ c.members
    → last ≡ left_from (member_left at) 0 given middle → last ≡ class_left at c start
unfolding class_left
class_left_by at c start middle last vs given own passed same goes =
    goes ∙ ap (λ ms. left_from (member_left at) 0 ms middle) same ∙ ap (left_from (member_left at) 0 c.members) (passed ∙ ap (λ v. after_variables v start) own)

abbrev pub tree_of : ChannelKind → List MessageDecl → List ClassTree → List MainLine → Tree
tree_of kind messages classes main = record { kind = kind; messages = messages; classes = classes; main = main }

-- a program, by what its lines and its classes became
pub tree_by : (t : Tree) (untyped : List OpenPlace) (types : List Ty) (tags : Tags) (written messages : List MessageDecl) (given classes : List ClassTree) (main : List MainLine) (middle : Left) → tags ≡ added_tags t → written ≡ t.messages
    → messages ≡ written ++ message_lines tags types → middle ≡ after_tags tags (left_with untyped types) → given ≡ t.classes → classes ≡ filled_from class_filled class_left 0 given middle → main ≡ t.main
    → tree_of t.kind messages classes main ≡ filled (record { tree = t; untyped = untyped }) types
unfolding filled
tree_by t untyped types tags written messages given classes main middle own copied lined passed same made lines =
    let now : List MessageDecl = t.messages ++ message_lines (added_tags t) types in
    let rest : Left = after_tags (added_tags t) (left_with untyped types) in
    ap (λ ms. tree_of t.kind ms classes main) (lined ∙ ap (λ ms. ms ++ message_lines tags types) copied ∙ ap (λ ts. t.messages ++ message_lines ts types) own)
    ∙ ap (λ cs. tree_of t.kind now cs main)
    (made ∙ ap (λ cs. filled_from class_filled class_left 0 cs middle) same ∙ ap (filled_from class_filled class_left 0 t.classes) (passed ∙ ap (λ ts. after_tags ts (left_with untyped types)) own))
    ∙ ap (λ ms. tree_of t.kind now (filled_from class_filled class_left 0 t.classes rest) ms) lines
