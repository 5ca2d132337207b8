use Rattle.kb_asm_text.specs.Lines.{keyword_of}
use Rattle.kb_asm_text.specs.declared.keyword.Keyword.TheVariants as keywords
use Rattle.kb_asm_text.proofs.TextLaws.{behind_read, behind_told}
use Rattle.kb_asm_text.proofs.reading.read_behind.Goals as goal

pub returns-in-Class : goal.returns-in-Class
returns-in-Class c = behind_read c.class_line.result keywords.Class (keyword_of c.args.first.now) c.args.first.now c.args.words.now c.in-Class.ensures c.class_line.ensures

pub returns-in-Implements : goal.returns-in-Implements
returns-in-Implements c = behind_read c.implements_line.result keywords.Implements (keyword_of c.args.first.now) c.args.first.now c.args.words.now c.in-Implements.ensures c.implements_line.ensures

pub returns-in-Field : goal.returns-in-Field
returns-in-Field c = behind_read c.field_line.result keywords.Field (keyword_of c.args.first.now) c.args.first.now c.args.words.now c.in-Field.ensures c.field_line.ensures

pub returns-in-Method : goal.returns-in-Method
returns-in-Method c = behind_read c.method_line.result keywords.Method (keyword_of c.args.first.now) c.args.first.now c.args.words.now c.in-Method.ensures c.method_line.ensures

pub returns-in-Catch : goal.returns-in-Catch
returns-in-Catch c = behind_read c.catch_line.result keywords.Catch (keyword_of c.args.first.now) c.args.first.now c.args.words.now c.in-Catch.ensures c.catch_line.ensures

pub returns-in-Label : goal.returns-in-Label
returns-in-Label c = behind_read c.label_line.result keywords.Label (keyword_of c.args.first.now) c.args.first.now c.args.words.now c.in-Label.ensures c.label_line.ensures

pub returns-in-Other : goal.returns-in-Other
returns-in-Other c = behind_read c.instr_line.result keywords.Other (keyword_of c.args.first.now) c.args.first.now c.args.words.now c.in-Other.ensures c.instr_line.ensures

pub returns-in-Raw : goal.returns-in-Raw
returns-in-Raw c = behind_told c.raw_line.result keywords.Raw (keyword_of c.args.first.now) c.args.first.now c.args.words.now c.in-Raw.ensures c.raw_line.ensures
