-- What a content says.
use Rattle.std.specs.Prelude.{◌≡◌, ℕ, Bool, true, false, not, ◌||◌, if◌then◌else◌, List, Option, Some, None, is_some, option_and_then, codes, IsUtf8}
use Rattle.serde_json.specs.Data.{Data, null, boolean, number, string, array, object}
use Rattle.serde_json.specs.Find.{as_str, get, is_float}
use Rattle.serde_json.specs.Read.{read}

-- a request with its id and its method; a notification with its method; the client's answer to a request; JSON that is none of
-- these; or no JSON
pub data Heard : Type 0 where
  asks : Data → List ℕ → Heard
  notes : List ℕ → Heard
  answers : Heard
  invalid : Heard

-- an id is a text or an integer
abbrev pub is_id : Data → Bool
is_id (string s) = true
is_id (number n) = not (is_float n)
is_id null = false
is_id (boolean b) = false
is_id (array ds) = false
is_id (object ms) = false

-- what has neither a method nor the result or the error of an answer says nothing
abbrev pub heard_by : Option (List ℕ) → Option Data → Bool → Heard
heard_by (Some method) (Some id) done = if is_id id then asks id method else invalid
heard_by (Some method) None done = notes method
heard_by None id done = if done then answers else invalid

abbrev pub is_answer : Data → Bool
is_answer d = is_some (get (codes "result") d) || is_some (get (codes "error") d)

-- what JSON says
abbrev pub heard : Data → Heard
heard d = heard_by (option_and_then as_str (get (codes "method") d)) (get (codes "id") d) (is_answer d)

-- the content is the JSON of this
pub record Says (content : List ℕ) (d : Data) : Type 0 where
  pub utf8 : IsUtf8 content
  pub is : read content ≡ Some d

-- the content is no JSON
abbrev pub SaysNothing : List ℕ → Type 0
SaysNothing content = IsUtf8 content → read content ≡ None
