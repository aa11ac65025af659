-- The page of a text, from the actions that it spells.
use Rattle.std.proofs.Common.{◌≡◌, ◌∙◌, ap, ℕ, List, []}
use Rattle.da_lang.specs.declared.event.Action.{Action}
use Rattle.trace_page.specs.declared.page.Page.{Page}
use Rattle.trace_page.specs.PageText.{page_of, page_text, trace_page}
use Rattle.trace_page.specs.TraceText.{SpellsTrace}

pub is_page : (text : List ℕ) (actions : List Action) (page : Page) (bytes : List ℕ) → SpellsTrace text actions → page ≡ trace_page actions → bytes ≡ page_text page []
    → (found : List Action) × SpellsTrace text found × (bytes ≡ page_of found)
is_page text actions page bytes spells is written = (actions, spells, written ∙ ap (λ p. page_text p []) is)
