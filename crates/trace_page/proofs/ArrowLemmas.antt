-- The parts of an arrow, from its points and from where its message was sent.
use Rattle.std.proofs.Common.{◌≡◌, ◌∙◌, ap, ℕ, List, ◌++◌}
use Rattle.std.specs.Prelude.{OnOk, Result, Ok, Err}
use Rattle.da_values.specs.declared.list.NoMemory.{NoMemory}
use Rattle.trace_page.specs.declared.markup.Markup.{Markup}
use Rattle.trace_page.specs.declared.page.Page.{Page}
use Rattle.trace_page.specs.Arrows.{way_parts}
use Rattle.trace_page.specs.Parts.{Part, parts_text}

abbrev way_text : Page → Markup → (p q from to ax ay bx below : ℕ) → List ℕ
way_text page opening p q from to ax ay bx below = parts_text (way_parts page opening p q from to (record { x = ax; y = ay }) (record { x = bx; y = below }))

module _ (page : Page) (opening : Markup) (p q from to : ℕ) where
  pub way_put : {T : Type 0} (ax ay bx below cx cy dx deep : ℕ) (old new : List ℕ) (r : Result T NoMemory) → ax ≡ cx → ay ≡ cy → bx ≡ dx → below ≡ deep
      → OnOk r (new ≡ old ++ parts_text (way_parts page opening p q from to (record { x = ax; y = ay }) (record { x = bx; y = below })))
      → OnOk r (new ≡ old ++ parts_text (way_parts page opening p q from to (record { x = cx; y = cy }) (record { x = dx; y = deep })))
  way_put ax ay bx below cx cy dx deep old new (Ok x) left top right bottom put =
      put
      ∙ ap (λ (n : ℕ). old ++ way_text page opening p q from to n ay bx below) left
      ∙ ap (λ (n : ℕ). old ++ way_text page opening p q from to cx n bx below) top
      ∙ ap (λ (n : ℕ). old ++ way_text page opening p q from to cx cy n below) right
      ∙ ap (λ (n : ℕ). old ++ way_text page opening p q from to cx cy dx n) bottom
  way_put ax ay bx below cx cy dx deep old new (Err e) left top right bottom put = tt

-- the parts of the same thing
pub parts_chosen : {T A : Type 0} (parts : A → List Part) (found is : A) (old new : List ℕ) (r : Result T NoMemory) → found ≡ is → OnOk r (new ≡ old ++ parts_text (parts found)) → OnOk r (new ≡ old ++ parts_text (parts is))
parts_chosen parts found is old new (Ok x) same put = put ∙ ap (λ y. old ++ parts_text (parts y)) same
parts_chosen parts found is old new (Err e) same put = tt
