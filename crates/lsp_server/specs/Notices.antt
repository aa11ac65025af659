-- What is told of a document that is opened, changed or closed: the diagnostics of its text are what `check` answers to it.
use Rattle.std.specs.Prelude.{◌≡◌, ℕ, ⊤, if◌then◌else◌, List, [], Option, Some, None, option_and_then, codes}
use Rattle.std.specs.Str.{bytes_eq}
use Rattle.serde_json.specs.Data.{Data, number, string, array, object, unsigned, Items, no_items, item, member, no_members}
use Rattle.serde_json.specs.Find.{as_array, as_str, get}
use Rattle.da_commands.specs.Lines.{refused_text}
use Rattle.da_front.specs.declared.refusal.RefusedKind.{RefusedKind}
use Rattle.da_front.specs.Verdict.{Accepts, Refuses}
use Rattle.da_lang.specs.declared.program.Program.{Program}
use Rattle.lsp_server.specs.Letters.{IsSent, notice}

-- what a notification does to a document: it has this text now, or it is closed
pub record Change : Type 0 where
  pub uri : List ℕ
  pub text : Option (List ℕ)

-- the last of some items
abbrev pub last_item : Items → Option Data
last_item no_items = None
last_item (item d no_items) = Some d
last_item (item d (item e ds)) = last_item (item e ds)

abbrev pub text_at : List ℕ → Data → Option (List ℕ)
text_at key d = option_and_then as_str (get key d)

-- the document that the parameters of a message name
abbrev pub params_of : Data → Option Data
params_of d = get (codes "params") d

abbrev pub document_of : Data → Option Data
document_of d = option_and_then (get (codes "textDocument")) (params_of d)

abbrev pub uri_of : Data → Option (List ℕ)
uri_of d = option_and_then (text_at (codes "uri")) (document_of d)

-- the whole text, when it is opened; by the last of its changes, when it is changed
abbrev pub opened_text : Data → Option (List ℕ)
opened_text d = option_and_then (text_at (codes "text")) (document_of d)

abbrev pub changes_in : Data → Option Items
changes_in params = option_and_then as_array (get (codes "contentChanges") params)

abbrev pub changes_of : Data → Option Items
changes_of d = option_and_then changes_in (params_of d)

abbrev pub last_change : Data → Option Data
last_change d = option_and_then last_item (changes_of d)

abbrev pub changed_text : Data → Option (List ℕ)
changed_text d = option_and_then (text_at (codes "text")) (last_change d)

abbrev pub with_text : List ℕ → Option (List ℕ) → Option Change
with_text uri None = None
with_text uri (Some text) = Some (record { uri = uri; text = Some text })

-- what a notification of this method does; none where it does nothing to a document, or lacks what it needs
abbrev pub change_to : List ℕ → Data → List ℕ → Option Change
change_to method d uri =
    if bytes_eq method (codes "textDocument/didOpen") then with_text uri (opened_text d)
    else if bytes_eq method (codes "textDocument/didChange") then with_text uri (changed_text d)
    else if bytes_eq method (codes "textDocument/didClose") then Some (record { uri = uri; text = None })
    else None

abbrev pub change_of : List ℕ → Data → Option Change
change_of method d = option_and_then (change_to method d) (uri_of d)

-- a diagnostic has the severity of a warning
abbrev pub IsWarning : Data → Type 0
IsWarning d = get (codes "severity") d ≡ Some (number (unsigned 2))

abbrev pub AreWarnings : Items → Type 0
AreWarnings no_items = ⊤
AreWarnings (item d ds) = IsWarning d × AreWarnings ds

-- the diagnostics of a text: warnings alone where it is accepted, and else one, whose data is the line that `check` answers
pub data IsDiagnosed (text : List ℕ) : Items → Type 0 where
  fine : (program : Program) (items : Items) → Accepts text program → AreWarnings items → IsDiagnosed text items
  refused : (kind : RefusedKind) (line : ℕ) (d : Data) → Refuses text kind line → get (codes "data") d ≡ Some (string (refused_text kind line)) → IsDiagnosed text (item d no_items)

-- those of a document that is closed are none
abbrev pub AreOf : Option (List ℕ) → Items → Type 0
AreOf None items = items ≡ no_items
AreOf (Some text) items = IsDiagnosed text items

unfoldable pub published : List ℕ → Items → Data
published uri items =
    notice (codes "textDocument/publishDiagnostics") (object
    (member (codes "diagnostics") (array items)
    (member (codes "uri") (string uri)
    no_members)))

-- the bytes that tell the diagnostics after a change
abbrev pub Tells : Change → List ℕ → Type 0
Tells change bytes = (items : Items) × AreOf change.text items × IsSent (published change.uri items) bytes

-- the bytes that a notification is followed by
abbrev pub TellsOf : Option Change → List ℕ → Type 0
TellsOf None bytes = bytes ≡ []
TellsOf (Some change) bytes = Tells change bytes
