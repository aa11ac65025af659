-- What is known where types are looked for, as code has it.
use Rattle.da_lang.specs.QueryTypes as type
use Rattle.da_typing.specs.declared.known.Known.{Known}

abbrev pub known_of : Known → type.Known
known_of known = record { messages = known.messages.now; slots = known.slots.now }
