-- What a message says, from what was found in it.
use Rattle.std.proofs.Common.{◌≡◌, refl, ap, sym, ◌∙◌, ℕ, List, Bool, true, false, not, ◌&&◌, true≢false, Option, Some, is_some, unwrap_or, option_map, option_and_then, Bor, codes}
use Rattle.std.specs.Prelude.{if◌then◌else◌}
use Rattle.serde_json.specs.Data.{Data, array, boolean, null, number, object, string}
use Rattle.serde_json.specs.Find.{as_number, as_str, get, is_float}
use Rattle.lsp_server.specs.declared.message.NoJson.TheVariants as why
use Rattle.lsp_server.specs.Heard.{Heard, asks, heard, heard_by, invalid, is_answer, is_id}
use Rattle.lsp_server.proofs.JsonLemmas.{found_some, text_shown}

-- a message with a method
pub heard_with : (d : Data) (said : Heard) (found : Option (Bor (List ℕ))) (m : Bor (List ℕ)) → said ≡ heard_by (Some m.now) (get (codes "id") d) (is_answer d)
    → option_map text_shown found ≡ option_and_then as_str (get (codes "method") d) → found ≡ Some m → said ≡ heard d
heard_with d said found m is seen some = is ∙ ap (λ method. heard_by method (get (codes "id") d) (is_answer d)) (found_some text_shown found (option_and_then as_str (get (codes "method") d)) seen m some)

-- a request by its id
by_id : (id : Data) (method : List ℕ) (done b : Bool) → b ≡ is_id id → (if b then asks id method else invalid) ≡ heard_by (Some method) (Some id) done
by_id id method done b is = ap (λ (x : Bool). if x then asks id method else invalid) is

pub asks_by : (id : Data) (method : List ℕ) (done : Bool) → true ≡ is_id id → asks id method ≡ heard_by (Some method) (Some id) done
asks_by id method done is = by_id id method done true is

pub invalid_by : (id : Data) (method : List ℕ) (done : Bool) → false ≡ is_id id → invalid ≡ heard_by (Some method) (Some id) done
invalid_by id method done is = by_id id method done false is

-- an id that is a text
pub text_id : (d : Data) → true ≡ is_some (as_str d) → true ≡ is_id d
text_id null is = absurd (true≢false is)
text_id (boolean b) is = absurd (true≢false is)
text_id (number n) is = absurd (true≢false is)
text_id (string s) is = refl
text_id (array ds) is = absurd (true≢false is)
text_id (object ms) is = absurd (true≢false is)

-- one that is none
pub integer_id : (d : Data) → false ≡ is_some (as_str d) → (is_some (as_number d) && not (unwrap_or (option_map is_float (as_number d)) false)) ≡ is_id d
integer_id null is = refl
integer_id (boolean b) is = refl
integer_id (number n) is = refl
integer_id (string s) is = absurd (true≢false (sym is))
integer_id (array ds) is = refl
integer_id (object ms) is = refl

-- why a read failed
pub unread_memory : why.Unread ≡ why.Memory → ⊥
unread_memory is = cc
