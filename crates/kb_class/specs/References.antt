-- What a reader of references tells.
use Rattle.kb_class.specs.declared.entries.Reference.{Reference}
use Rattle.kb_class.specs.Class.{Sought}

abbrev pub sought_of : Reference → Sought
sought_of found = record { what = found.what; class = found.class.now; member = record { name = found.name.now; kind = found.kind.now } }
