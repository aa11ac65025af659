-- What an endpoint in memory stands for.
use Rattle.std.specs.Prelude.{List, [], Option}
use Rattle.std.proofs.Common.{zero-le}
use Rattle.da_outside.specs.declared.link.LinkEntry.{LinkEntry}
use Rattle.arq_link.specs.declared.endpoint.Endpoint as kept
use Rattle.arq_link.specs.Endpoint.{Endpoint}
use Rattle.arq_link.specs.Sessions.{endpoint_by}
use Rattle.arq_link.specs.declared.telling.Telling.{Telling}
use Rattle.arq_link.specs.Told.{Agrees, Agrees-prop}

abbrev pub endpoint_of : kept.Endpoint → Endpoint
endpoint_of e = endpoint_by e.sessions e.idle

-- all peers are forgotten
abbrev pub forgotten : kept.Endpoint → kept.Endpoint
forgotten e = record e { sessions = []; few = zero-le; kept = tt }

-- the endpoint and what the inner link tells agree, as far as a link in this state tells anything
abbrev pub Stands : Telling → kept.Endpoint → Option (List LinkEntry) → Type 0
Stands telling e told = Agrees telling e.me (endpoint_of e) told

pub Stands-prop : (telling : Telling) (e : kept.Endpoint) (told : Option (List LinkEntry)) → IsProp (Stands telling e told)
Stands-prop telling e told = Agrees-prop telling e.me (endpoint_of e) told
