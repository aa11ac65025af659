use Rattle.da_core.proofs.store.KnownStore.del.Goals as goal

pub take_from-requires : goal.take_from-requires
take_from-requires c = c.requires
