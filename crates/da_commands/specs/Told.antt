-- What is said of texts that are told, and what a sink gained of a reply.
use Rattle.std.specs.Prelude.{◌≡◌, ℕ, ◌⊎◌, List, [], ◌∷◌, Option, Some, None}
use Rattle.da_outside.specs.Outside.{Appends, AppendsPrefix}
use Rattle.da_commands.specs.declared.status.Status.{Status}
use Rattle.da_commands.specs.declared.status.Status.TheVariants.{ReadFault, WriteFault, Memory, LinkFault, ChildFault}

-- it holds of the text that is told, or, where none is told, of some text in its place
abbrev pub OfTold : Option (List ℕ) → (List ℕ → Type 0) → Type 0
OfTold None P = (text : List ℕ) × P text
OfTold (Some text) P = P text

-- it holds of the texts that are told, each in its place
abbrev pub OfAllTold : List (Option (List ℕ)) → (List (List ℕ) → Type 0) → Type 0
OfAllTold [] P = P []
OfAllTold (told ∷ others) P = OfTold told (λ text. OfAllTold others (λ texts. P (text ∷ texts)))

-- a sink gained the bytes of a reply with this status
pub record Gains (Reply : Status → List ℕ → Type 0) (status : Status) (before after : Option (List ℕ)) : Type 0 where
  pub bytes : List ℕ
  pub reply : Reply status bytes
  pub written : Appends before after bytes

-- it gained nothing, or a prefix of the bytes of a reply
abbrev pub Begins : (Status → List ℕ → Type 0) → Option (List ℕ) → Option (List ℕ) → Type 0
Begins Reply before after = Appends before after [] ⊎ ((status : Status) × (bytes : List ℕ) × Reply status bytes × AppendsPrefix before after bytes)

-- by the status of a call: the bytes of a reply, or nothing or a prefix of them where it was cut short
abbrev pub HasReplied : (Status → List ℕ → Type 0) → Status → Option (List ℕ) → Option (List ℕ) → Type 0
HasReplied Reply ReadFault before after = Begins Reply before after
HasReplied Reply WriteFault before after = Begins Reply before after
HasReplied Reply Memory before after = Begins Reply before after
HasReplied Reply LinkFault before after = Begins Reply before after
HasReplied Reply ChildFault before after = Begins Reply before after
HasReplied Reply status before after = Gains Reply status before after

-- a write failed, or memory was refused
abbrev pub IsUnwritten : Status → Type 0
IsUnwritten WriteFault = Unit {0}
IsUnwritten Memory = Unit {0}
IsUnwritten _ = ⊥

-- A call writes these bytes to end with this status: it does, or it was cut short after a prefix of them.
pub data HasSaid (status : Status) (bytes : List ℕ) (result : Status) (before after : Option (List ℕ)) : Type 0 where
  said : result ≡ status → Appends before after bytes → HasSaid status bytes result before after
  unsaid : IsUnwritten result → AppendsPrefix before after bytes → HasSaid status bytes result before after
