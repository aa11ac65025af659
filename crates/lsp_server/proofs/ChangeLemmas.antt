-- Changes of documents, from what was found in a notification.
use Rattle.std.proofs.Common.{◌≡◌, ap, sym, ◌∙◌, subst, ℕ, List, Option, Some, None, option_map, Bor}
use Rattle.serde_json.specs.Data.{Items, no_items}
use Rattle.lsp_server.specs.declared.noted.Change.{Change}
use Rattle.lsp_server.specs.Letters.{IsSent}
use Rattle.lsp_server.specs.Notices as notices
use Rattle.lsp_server.specs.Notices.{IsDiagnosed, Tells, TellsOf, published, with_text}
use Rattle.lsp_server.specs.Turns.{change_view}
use Rattle.lsp_server.proofs.JsonLemmas.{found_none, found_some, text_shown}

-- a text was found, or none
pub given_text : (uri : List ℕ) (found : Option (Bor (List ℕ))) (t : Bor (List ℕ)) (source : Option (List ℕ)) → option_map text_shown found ≡ source → found ≡ Some t
    → ◌≡◌ {A = Option notices.Change} (Some (record { uri = uri; text = Some t.now })) (with_text uri source)
given_text uri found t source seen some = ap (with_text uri) (found_some text_shown found source seen t some)

pub no_text : (uri : List ℕ) (found : Option (Bor (List ℕ))) (source : Option (List ℕ)) → option_map text_shown found ≡ source → found ≡ None → ◌≡◌ {A = Option notices.Change} None (with_text uri source)
no_text uri found source seen none = ap (with_text uri) (found_none text_shown found source seen none)

-- the bytes that follow a change follow the notification that makes it
pub tells_as : (found change : Change) (due : Option notices.Change) (bytes : List ℕ) → change_view found ≡ due → found ≡ change → TellsOf (change_view change) bytes → TellsOf due bytes
tells_as found change due bytes seen is told = subst (λ d. TellsOf d bytes) (sym (ap change_view is) ∙ seen) told

-- the diagnostics of a text, and those of none
pub tells_text : (uri text given : List ℕ) (items : Items) (bytes : List ℕ) → given ≡ text → IsDiagnosed given items → IsSent (published uri items) bytes → Tells (record { uri = uri; text = Some text }) bytes
tells_text uri text given items bytes same diagnosed sent = (items, subst (λ t. IsDiagnosed t items) same diagnosed, sent)

pub tells_none : (uri : List ℕ) (items : Items) (bytes : List ℕ) → items ≡ no_items → IsSent (published uri items) bytes → Tells (record { uri = uri; text = None }) bytes
tells_none uri items bytes none sent = (items, none, sent)
