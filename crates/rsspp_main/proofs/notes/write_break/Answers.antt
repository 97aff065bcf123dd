use Rattle.rsspp_main.proofs.notes.write_break.Goals as goal

pub returns-in-ShortHeader-clause-ok : goal.returns-in-ShortHeader-clause-ok
returns-in-ShortHeader-clause-ok g c = rw (c.in-ShortHeader.is, ← c.from.ensures) c.write_pieces.ensures.ok

pub returns-in-BadVersion-clause-ok : goal.returns-in-BadVersion-clause-ok
returns-in-BadVersion-clause-ok g c = rw (c.in-BadVersion.is, ← c.from-in-BadVersion.ensures, ← c.from-in-BadVersion-2.ensures) c.write_pieces-in-BadVersion.ensures.ok

pub returns-in-BadLink-clause-ok : goal.returns-in-BadLink-clause-ok
returns-in-BadLink-clause-ok g c = rw (c.in-BadLink.is, ← c.from-in-BadLink.ensures) c.write_pieces-in-BadLink.ensures.ok

pub returns-in-TooLong-clause-ok : goal.returns-in-TooLong-clause-ok
returns-in-TooLong-clause-ok g c = rw (c.in-TooLong.is, ← c.from-in-TooLong.ensures, ← c.from-in-TooLong-2.ensures) c.write_pieces-in-TooLong.ensures.ok

pub returns-in-ShortRecord-clause-ok : goal.returns-in-ShortRecord-clause-ok
returns-in-ShortRecord-clause-ok g c = rw (c.in-ShortRecord.is, ← c.from-in-ShortRecord.ensures, ← c.from-in-ShortRecord-2.ensures) c.write_pieces-in-ShortRecord.ensures.ok
