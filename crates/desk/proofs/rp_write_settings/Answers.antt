-- `rp_write_settings`: what the writer did, packed; a length and a place have room in their bits.
use Rattle.desk.proofs.Writing.{exported, short_sent, settings_answerable}
use Rattle.desk.proofs.rp_write_settings.Goals as goal

pub pack_written-requires : goal.pack_written-requires
pack_written-requires c = short_sent _ _ _ _ c.write_settings.ensures (settings_answerable _ _ _ _ _ _)

pub returns : goal.returns
returns c = exported c.write_settings.ensures c.pack_written.ensures
