-- What the code reads the values of a path by, in the terms of the definitions.
use Rattle.kb_picture.specs.declared.ending.Reading.{Reading as ReadingFields}
use Rattle.kb_picture.specs.Endings.{Reading}

abbrev pub as_read : ReadingFields → Reading
as_read r = record { places = r.places.now; variables = r.variables; terms = r.terms; inputs = r.inputs; literals = r.literals }
