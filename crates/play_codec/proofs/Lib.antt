mod Fitting
mod Fronts
mod Rows
