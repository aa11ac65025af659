use Rattle.da_core.proofs.store.KnownStore.add.Goals as goal

pub add_to-requires : goal.add_to-requires
add_to-requires c = c.requires
