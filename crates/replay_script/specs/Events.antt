-- An event in which a load has read something (this project's own).
use Rattle.replay_script.specs.declared.event.Event.{Event}
use Rattle.replay_script.specs.declared.event.Event.TheVariants.{Attach, Claim, Pin, Load, Fail, Commit, Drop, Page, Bad}

-- the same event, in which a load has read this
abbrev pub with_read : {R : Type 0} → Event (Unit {0}) → R → Event R
with_read (Attach pass asked) read = Attach pass asked
with_read (Claim pass) read = Claim pass
with_read (Pin pass) read = Pin pass
with_read (Load pass none) read = Load pass read
with_read (Fail pass) read = Fail pass
with_read (Commit pass) read = Commit pass
with_read (Drop pass) read = Drop pass
with_read (Page pass count) read = Page pass count
with_read Bad read = Bad
