mod Costing
mod Folding
mod Generating
mod Headlines
mod Playing
