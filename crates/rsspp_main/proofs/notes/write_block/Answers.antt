use Rattle.rsspp_main.proofs.notes.write_block.Goals as goal

pub returns-clause-ok : goal.returns-clause-ok
returns-clause-ok g c = rw (← c.from.ensures, ← c.from-2.ensures, ← c.kind_word.ensures, ← c.as_bytes.ensures.value) c.write_pieces.ensures.ok
