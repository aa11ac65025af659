-- What is looked for in what was found, and what is where nothing was.
use Rattle.std.proofs.Common.{◌≡◌, ap, sym, ◌∙◌, ℕ, List, Option, Some, None, is_some, option_map, option_and_then, Vec, Global, Bor}
use Rattle.serde_json.specs.Data.{Data, Items}
use Rattle.serde_json.specs.View.{items_view, view}
use Rattle.serde_json.specs.declared.value.Value.{Value}

-- what references to a value, to a text and to a list show
abbrev pub shown : Bor Value → Data
shown v = view v.now

abbrev pub text_shown : Bor (List ℕ) → List ℕ
text_shown t = t.now

abbrev pub list_shown : Bor (Vec Value Global) → Items
list_shown list = items_view list.now.items

module _ {R A B : Type 0} (seen : R → A) (go : A → Option B) (found : Option R) (source : Option A) (is : option_map seen found ≡ source) where
  pub followed : (r : R) → found ≡ Some r → go (seen r) ≡ option_and_then go source
  followed r some = ap (option_and_then go) (sym (ap (option_map seen) some) ∙ is)

  pub followed_none : found ≡ None → ◌≡◌ {A = Option B} None (option_and_then go source)
  followed_none none = ap (option_and_then go) (sym (ap (option_map seen) none) ∙ is)

module _ {R A : Type 0} (seen : R → A) (found : Option R) (source : Option A) (is : option_map seen found ≡ source) where
  pub found_some : (r : R) → found ≡ Some r → Some (seen r) ≡ source
  found_some r some = sym (ap (option_map seen) some) ∙ is

  pub found_none : found ≡ None → ◌≡◌ {A = Option A} None source
  found_none none = sym (ap (option_map seen) none) ∙ is

-- something is there where something was found
pub some_shown : {R A : Type 0} (seen : R → A) (found : Option R) (source : Option A) → option_map seen found ≡ source → is_some found ≡ is_some source
some_shown seen None source is = ap is_some is
some_shown seen (Some r) source is = ap is_some is
