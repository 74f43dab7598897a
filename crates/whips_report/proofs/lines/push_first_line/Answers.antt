use Rattle.whips_report.proofs.lines.push_first_line.Goals as goal

pub returns-in-More : goal.returns-in-More
returns-in-More c = rw (c.in-More.is, ← c.session.ensures, ← c.view.ensures) c.write.ensures.bytes

pub returns-in-Read : goal.returns-in-Read
returns-in-Read c = rw (c.in-Read.is, ← c.session-in-Read.ensures, ← c.view-in-Read.ensures, ← c.len.ensures.len) c.write-in-Read.ensures.bytes

pub returns-in-Expired : goal.returns-in-Expired
returns-in-Expired c = rw (c.in-Expired.is, ← c.session-in-Expired.ensures, ← c.view-in-Expired.ensures) c.write-in-Expired.ensures.bytes
