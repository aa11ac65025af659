-- Answers that are due, from the letters that are sent.
use Rattle.std.proofs.Common.{◌≡◌, refl, inl, inr, subst, ℕ, List}
use Rattle.serde_json.specs.Data.{Data, null}
use Rattle.lsp_server.specs.declared.fault.Fault.{Fault}
use Rattle.lsp_server.specs.declared.fault.Fault.TheVariants as fault
use Rattle.lsp_server.specs.Letters.{IsSent, answer, refusal}
use Rattle.lsp_server.specs.Session as session
use Rattle.lsp_server.specs.Session.{Answers}

pub some_answered : (id result : Data) (bytes : List ℕ) → IsSent (answer id result) bytes → Answers session.some id bytes
some_answered id result bytes sent = (answer id result, (result, refl), sent)

pub nothing_answered : (id : Data) (bytes : List ℕ) → IsSent (answer id null) bytes → Answers session.nothing id bytes
nothing_answered id bytes sent = (answer id null, refl, sent)

pub tried_answered : (id result : Data) (bytes : List ℕ) → IsSent (answer id result) bytes → Answers session.tried id bytes
tried_answered id result bytes sent = (answer id result, inl (result, refl), sent)

pub tried_refused : (id : Data) (bytes : List ℕ) → IsSent (refusal id fault.BadParams) bytes → Answers session.tried id bytes
tried_refused id bytes sent = (refusal id fault.BadParams, inr refl, sent)

pub refused_answered : (id : Data) (why : Fault) (bytes : List ℕ) → IsSent (refusal id why) bytes → Answers (session.fails why) id bytes
refused_answered id why bytes sent = (refusal id why, refl, sent)

-- what is due by another name
pub due_answered : (what due : session.Due) (id : Data) (bytes : List ℕ) → what ≡ due → Answers what id bytes → Answers due id bytes
due_answered what due id bytes is answers = subst (λ d. Answers d id bytes) is answers
