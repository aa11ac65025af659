-- What no line of a fault can be.
use Rattle.std.proofs.Common.{◌≡◌, refl, sym, ◌∙◌, ℕ, ◌≤◌, List, [], ◌∷◌, ◌++◌}
use Rattle.std.specs.Prelude.{codes}
use Rattle.da_lang.specs.declared.event.FaultKind.{FaultKind}
use Rattle.da_lang.specs.declared.event.FaultKind.TheVariants.{Overflow, Divide, Range, Message, TooLong}
use Rattle.sched_text.specs.ActionText.{fault_word}
use Rattle.sched_text.specs.Reading.{Stops}
use Rattle.sched_text.proofs.WordLemmas.{IsWord, one_cut}
use Rattle.sched_text.specs.ActionReading.{fault_after, number_then}
use Rattle.sched_text.specs.ActionLine.{Fits}
use Rattle.sched_text.proofs.ActionLaws.{plain}
use Rattle.sched_text.proofs.FieldLaws.{after_process}

pub fault_plain : (kind : FaultKind) → IsWord (fault_word kind)
fault_plain Overflow = plain (codes "overflow") refl
fault_plain Divide = plain (codes "divide") refl
fault_plain Range = plain (codes "range") refl
fault_plain Message = plain (codes "message") refl
fault_plain TooLong = plain (codes "toolong") refl

-- no fault of a process, whose number stands first
abbrev pub LacksFault : List ℕ → Type 0
LacksFault bytes = (p line : ℕ) (kind : FaultKind) → Fits 16 p → Fits 32 line → bytes ≡ number_then p (fault_after kind line) → ⊥

pub lacks_space : (p : ℕ) (bytes rest : List ℕ) → Fits 16 p → Stops rest → bytes ≡ number_then p rest → ((more : List ℕ) → rest ≡ 32 ∷ more → ⊥) → LacksFault bytes
lacks_space p bytes rest fits stops is lacks q line kind fits_q fits_line same =
    lacks (fault_word kind ++ number_then line []) (after_process p q bytes rest (fault_after kind line) fits stops is fits_q refl same)

-- the word after the process, and what follows it
cut_fault : (p q line : ℕ) (kind : FaultKind) (bytes rest more word end : List ℕ) → Fits 16 p → Stops rest → bytes ≡ number_then p rest → rest ≡ 32 ∷ more → more ≡ word ++ end → IsWord word → Stops end
    → Fits 16 q → bytes ≡ number_then q (fault_after kind line) → (word ≡ fault_word kind) × (end ≡ number_then line [])
cut_fault p q line kind bytes rest more word end fits stops is space cut plain_word stops_end fits_q same =
    let both : 32 ∷ more ≡ fault_after kind line = sym space ∙ after_process p q bytes rest (fault_after kind line) fits stops is fits_q refl same in
    let tails : more ≡ fault_word kind ++ number_then line [] = cc in
    one_cut word (fault_word kind) end (number_then line []) plain_word (fault_plain kind) stops_end refl (sym cut ∙ tails)

pub lacks_kind : (p : ℕ) (bytes rest more word end : List ℕ) → Fits 16 p → Stops rest → bytes ≡ number_then p rest → rest ≡ 32 ∷ more → more ≡ word ++ end → IsWord word → Stops end
    → ((kind : FaultKind) → word ≡ fault_word kind → ⊥) → LacksFault bytes
lacks_kind p bytes rest more word end fits stops is space cut plain_word stops_end lacks q line kind fits_q fits_line same =
    lacks kind (cut_fault p q line kind bytes rest more word end fits stops is space cut plain_word stops_end fits_q same).0

pub lacks_line : (most p : ℕ) (bytes rest more word end : List ℕ) → ((n : ℕ) → Fits 32 n → n ≤ most) → Fits 16 p → Stops rest → bytes ≡ number_then p rest → rest ≡ 32 ∷ more → more ≡ word ++ end → IsWord word → Stops end
    → ((n : ℕ) → n ≤ most → end ≡ number_then n [] → ⊥) → LacksFault bytes
lacks_line most p bytes rest more word end few fits stops is space cut plain_word stops_end lacks q line kind fits_q fits_line same =
    lacks line (few line fits_line) (cut_fault p q line kind bytes rest more word end fits stops is space cut plain_word stops_end fits_q same).1
