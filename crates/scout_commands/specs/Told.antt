-- What a sink gained of a reply, by the status of the call.
use Rattle.std.specs.Prelude.{◌≡◌, ℕ, List, [], Option}
use Rattle.da_outside.specs.Outside.{Appends, AppendsPrefix}
use Rattle.scout_commands.specs.declared.status.Status.{Status}
use Rattle.scout_commands.specs.declared.status.Status.TheVariants.{ReadFault, WriteFault, Memory}

-- a status that tells of an answer, and not of a fault or of want of memory
abbrev pub IsAnswer : Status → Type 0
IsAnswer ReadFault = ⊥
IsAnswer WriteFault = ⊥
IsAnswer Memory = ⊥
IsAnswer _ = Unit {0}

-- a write failed, or memory was refused
abbrev pub IsCut : Status → Type 0
IsCut WriteFault = Unit {0}
IsCut Memory = Unit {0}
IsCut _ = ⊥

-- It gained the bytes of a reply with this status; or, where the call was cut short, a prefix of bytes that were due, or nothing;
-- or nothing, where a read failed.
pub data HasReplied (Reply : Status → List ℕ → Type 0) (Due : List ℕ → Type 0) (status : Status) (before after : Option (List ℕ)) : Type 0 where
  whole : IsAnswer status → (bytes : List ℕ) → Reply status bytes → Appends before after bytes → HasReplied Reply Due status before after
  begun : IsCut status → (bytes : List ℕ) → Due bytes → AppendsPrefix before after bytes → HasReplied Reply Due status before after
  nothing : IsCut status → after ≡ before → HasReplied Reply Due status before after
  unread : status ≡ ReadFault → after ≡ before → HasReplied Reply Due status before after

-- the bytes of a reply with some status
abbrev pub OfReply : (Status → List ℕ → Type 0) → List ℕ → Type 0
OfReply Reply bytes = (status : Status) × Reply status bytes

abbrev pub Answers : (Status → List ℕ → Type 0) → Status → Option (List ℕ) → Option (List ℕ) → Type 0
Answers Reply status before after = HasReplied Reply (OfReply Reply) status before after

-- the one status and the bytes with which a call is to end
pub record IsSaid (status : Status) (bytes : List ℕ) (said : Status) (written : List ℕ) : Type 0 where
  pub status_is : said ≡ status
  pub bytes_are : written ≡ bytes

abbrev pub HasSaid : Status → List ℕ → Status → Option (List ℕ) → Option (List ℕ) → Type 0
HasSaid status bytes result before after = Answers (IsSaid status bytes) result before after
