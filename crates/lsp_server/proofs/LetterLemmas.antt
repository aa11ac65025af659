-- Letters, from the members that are put together.
use Rattle.std.proofs.Common.{◌≡◌, refl, ℕ, List, codes}
use Rattle.serde_json.specs.Data.{Data, Items, Members, array, no_members, number, object, put, string}
use Rattle.serde_json.specs.Find.{of_integer}
use Rattle.lsp_server.specs.declared.fault.Fault.{Fault}
use Rattle.lsp_server.specs.Faults.{code_of, text_of}
use Rattle.lsp_server.specs.Letters.{answer, error, notice, refusal}
use Rattle.lsp_server.specs.Notices.{published}

pub made_answer : (id result copy : Data) (none one two three : Members) → none ≡ no_members → copy ≡ id → one ≡ put (codes "id") copy none → two ≡ put (codes "jsonrpc") (string (codes "2.0")) one
    → three ≡ put (codes "result") result two → object three ≡ answer id result
unfolding answer
made_answer id result copy none one two three empty same a b c = rw (c, b, a, same, empty) refl

pub made_error : (fault : Fault) (code text : Data) (none one two : Members) → none ≡ no_members → code ≡ number (of_integer (code_of fault)) → text ≡ string (text_of fault)
    → one ≡ put (codes "code") code none → two ≡ put (codes "message") text one → object two ≡ error fault
unfolding error
made_error fault code text none one two empty c t a b = rw (b, a, c, t, empty) refl

pub made_refusal : (id why copy : Data) (fault : Fault) (none one two three : Members) → none ≡ no_members → why ≡ error fault → one ≡ put (codes "error") why none → copy ≡ id → two ≡ put (codes "id") copy one
    → three ≡ put (codes "jsonrpc") (string (codes "2.0")) two → object three ≡ refusal id fault
unfolding refusal
made_refusal id why copy fault none one two three empty w a same b c = rw (c, b, same, a, w, empty) refl

pub made_notice : (method : List ℕ) (params : Data) (bytes : List ℕ) (none one two three : Members) → none ≡ no_members → one ≡ put (codes "jsonrpc") (string (codes "2.0")) none → bytes ≡ method
    → two ≡ put (codes "method") (string bytes) one → three ≡ put (codes "params") params two → object three ≡ notice method params
unfolding notice
made_notice method params bytes none one two three empty a same b c = rw (c, b, same, a, empty) refl

pub made_published : (uri : List ℕ) (items : Items) (list params : Data) (bytes : List ℕ) (none one two : Members) → none ≡ no_members → list ≡ array items → one ≡ put (codes "diagnostics") list none → bytes ≡ uri
    → two ≡ put (codes "uri") (string bytes) one → params ≡ object two → notice (codes "textDocument/publishDiagnostics") params ≡ published uri items
unfolding published
made_published uri items list params bytes none one two empty whole a same b is = rw (is, b, same, a, whole, empty) refl
